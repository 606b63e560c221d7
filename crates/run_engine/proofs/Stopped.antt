-- What stopped a run by a fault: the book counts at least as many fails as the note says, and one with its cause.
use Rattle.std.proofs.Common.{◌≡◌, ℕ, ◌+◌, ◌<◌, ◌≤◌, Bool, true, false, List, refl, sym, ap, subst, ◌∙◌, arith}
use Rattle.std.specs.Prelude.{Option, Some, None}
use Rattle.beam_ports.specs.Counts.{greatest_count, raised}
use Rattle.beam_values.specs.declared.fault.Cause.{Cause}
use Rattle.beam_values.specs.declared.fault.Cause.TheVariants.{Call, Read}
use Rattle.beam_values.specs.declared.fault.FaultNote.{FaultNote}
use Rattle.beam_values.specs.declared.file_text.FileText.{FileText}
use Rattle.beam_values.specs.declared.outcome.StopCause.{StopCause}
use Rattle.beam_values.specs.declared.outcome.StopCause.TheVariants as stop
use Rattle.book_core.specs.Book.{SeenBook}
use Rattle.book_core.specs.Changes.{attempts_of, counted, ends_run, given_back, note_of, or_stopped, stopped_where, with_slot}
use Rattle.book_core.specs.Jobs.{Next, next_job}
use Rattle.book_core.specs.Runs.{Reached}
use Rattle.book_core.specs.Sane.{IsSane}
use Rattle.book_core.specs.declared.live.Live.{Live}
use Rattle.book_core.specs.declared.live.Live.TheVariants as live
use Rattle.book_core.proofs.Cases.{Both, Keeps, always_reached, kept_with}
use Rattle.book_core.proofs.Failures.{below_limit, tried_at_most}
use Rattle.book_core.proofs.SaneAlways.{reached_sane, sane_always}
use Rattle.book_core.proofs.Taking.{take_cases}

-- how many fails with this cause were counted
abbrev pub count_by : Cause → ℕ → ℕ → ℕ
count_by Call calls reads = calls
count_by Read calls reads = reads

abbrev pub IsNoteCounted : FaultNote → ℕ → ℕ → Type 0
IsNoteCounted note calls reads = (note.attempt ≤ calls + reads) × (0 < count_by note.cause calls reads)

record IsStopCounted (b : SeenBook) : Type 0 where
  pub stop : (note : FaultNote) → b.stopped ≡ Some (stop.Spent note) → IsNoteCounted note b.calls b.reads

-- ---- more fails

more_by : (cause : Cause) (calls reads more_calls more_reads : ℕ) → calls ≤ more_calls → reads ≤ more_reads → 0 < count_by cause calls reads → 0 < count_by cause more_calls more_reads
more_by Call calls reads more_calls more_reads low low' some = omega (arith, low, some)
more_by Read calls reads more_calls more_reads low low' some = omega (arith, low', some)

still_counted : (note : FaultNote) (calls reads more_calls more_reads : ℕ) → calls ≤ more_calls → reads ≤ more_reads → IsNoteCounted note calls reads → IsNoteCounted note more_calls more_reads
still_counted note calls reads more_calls more_reads low low' h = (omega (arith, low, low', h.0), more_by note.cause calls reads more_calls more_reads low low' h.1)

-- ---- a fail

-- the first stop stays, and else the fail's own note stops the run
stops_by : (spent : Bool) (b : SeenBook) (own : FaultNote) → ((note : FaultNote) → b.stopped ≡ Some (stop.Spent note) → IsNoteCounted note b.calls b.reads) → IsNoteCounted own b.calls b.reads
    → IsStopCounted (stopped_where spent b own)
stops_by false b own known counts = record { stop = known }
stops_by true b own known counts = record { stop = after b.stopped refl }
  where
    after : (was : Option StopCause) → b.stopped ≡ was → (note : FaultNote) → or_stopped was (stop.Spent own) ≡ Some (stop.Spent note) → IsNoteCounted note b.calls b.reads
    after (Some kept) e note is = known note (e ∙ is)
    after None e note is = let same : own ≡ note = cc in subst (λ (n : FaultNote). IsNoteCounted n b.calls b.reads) same counts

-- the book after a fail was counted, before it may be stopped
failed_to : (b : SeenBook) (slot at : ℕ) (job : Live) (cause : Cause) (spent : Bool) → b.calls ≤ greatest_count → b.reads ≤ greatest_count → attempts_of job ≤ b.calls + b.reads → attempts_of job < 1000
    → ((note : FaultNote) → b.stopped ≡ Some (stop.Spent note) → IsNoteCounted note b.calls b.reads)
    → IsStopCounted (stopped_where spent (counted (given_back (with_slot b slot None) job at cause) cause) (note_of job at cause))
failed_to b slot at (live.Span piece attempted) Call spent low low' tried few known =
    stops_by spent (counted (given_back (with_slot b slot None) (live.Span piece attempted) at Call) Call) (note_of (live.Span piece attempted) at Call)
    (λ note is. still_counted note b.calls b.reads (raised b.calls) b.reads (omega (arith, low)) (omega arith) (known note is)) (omega (arith, low, tried, few), omega arith)
failed_to b slot at (live.Span piece attempted) Read spent low low' tried few known =
    stops_by spent (counted (given_back (with_slot b slot None) (live.Span piece attempted) at Read) Read) (note_of (live.Span piece attempted) at Read)
    (λ note is. still_counted note b.calls b.reads b.calls (raised b.reads) (omega arith) (omega (arith, low')) (known note is)) (omega (arith, low', tried, few), omega arith)
failed_to b slot at (live.Batch batch) Call spent low low' tried few known =
    stops_by spent (counted (given_back (with_slot b slot None) (live.Batch batch) at Call) Call) (note_of (live.Batch batch) at Call)
    (λ note is. still_counted note b.calls b.reads (raised b.calls) b.reads (omega (arith, low)) (omega arith) (known note is)) (omega (arith, low, tried, few), omega arith)
failed_to b slot at (live.Batch batch) Read spent low low' tried few known =
    stops_by spent (counted (given_back (with_slot b slot None) (live.Batch batch) at Read) Read) (note_of (live.Batch batch) at Read)
    (λ note is. still_counted note b.calls b.reads b.calls (raised b.reads) (omega arith) (omega (arith, low')) (known note is)) (omega (arith, low', tried, few), omega arith)
failed_to b slot at (live.Key turn) Call spent low low' tried few known =
    stops_by spent (counted (given_back (with_slot b slot None) (live.Key turn) at Call) Call) (note_of (live.Key turn) at Call)
    (λ note is. still_counted note b.calls b.reads (raised b.calls) b.reads (omega (arith, low)) (omega arith) (known note is)) (omega (arith, low, tried, few), omega arith)
failed_to b slot at (live.Key turn) Read spent low low' tried few known =
    stops_by spent (counted (given_back (with_slot b slot None) (live.Key turn) at Read) Read) (note_of (live.Key turn) at Read)
    (λ note is. still_counted note b.calls b.reads b.calls (raised b.reads) (omega arith) (omega (arith, low')) (known note is)) (omega (arith, low', tried, few), omega arith)

-- ---- a take, and a stop for want of memory

record Rests (b : SeenBook) (next : Next) : Type 0 where
  calls : next.rest.calls ≡ b.calls
  reads : next.rest.reads ≡ b.reads
  stopped : next.rest.stopped ≡ b.stopped

rests_next : (b : SeenBook) (next : Next) → next_job b ≡ Some next → Rests b next
rests_next b next is =
    take_cases b (Rests b) (λ batch among. record { calls = refl; reads = refl; stopped = refl }) (λ batch oldest. record { calls = refl; reads = refl; stopped = refl })
    (λ place cell found. record { calls = refl; reads = refl; stopped = refl }) (λ piece later e. record { calls = refl; reads = refl; stopped = refl }) next is

taken_counted : (b : SeenBook) (next : Next) → Rests b next → ((note : FaultNote) → b.stopped ≡ Some (stop.Spent note) → IsNoteCounted note b.calls b.reads)
    → (note : FaultNote) → next.rest.stopped ≡ Some (stop.Spent note) → IsNoteCounted note next.rest.calls next.rest.reads
taken_counted b next rests known note is =
    subst (λ (n : ℕ). IsNoteCounted note n next.rest.reads) (sym rests.calls) (subst (λ (n : ℕ). IsNoteCounted note b.calls n) (sym rests.reads) (known note (sym rests.stopped ∙ is)))

stopped_counted : (b : SeenBook) (was : Option StopCause) → b.stopped ≡ was → ((note : FaultNote) → b.stopped ≡ Some (stop.Spent note) → IsNoteCounted note b.calls b.reads)
    → (note : FaultNote) → or_stopped was stop.NoMemory ≡ Some (stop.Spent note) → IsNoteCounted note b.calls b.reads
stopped_counted b (Some kept) e known note is = known note (e ∙ is)
stopped_counted b None e known note is = absurd (cc)

-- ---- each step

keeps_stops : (told : Option (List FileText)) → Keeps told IsSane IsStopCounted
keeps_stops told = record {
  opens = λ b first opening. record { stop = λ note is. let none : first.stopped ≡ None = ap (λ (x : SeenBook). x.stopped) opening.is in absurd (cc) };
  enrolls = λ b known h within. record { stop = h.stop };
  takes = λ b slot next known h running free is within. record { stop = taken_counted b next (rests_next b next is) h.stop };
  claims = λ b slot p piece attempted known h works may. record { stop = h.stop };
  splits = λ b slot at piece attempted known h works inside behind within. record { stop = h.stop };
  commits = λ b slot job receipt cells fired marks known h made. record { stop = h.stop };
  fails = λ b slot at job cause known h works fresh whole.
      failed_to b slot at job cause (ends_run b job cause) known.attempts.calls known.attempts.reads (tried_at_most b slot job known works)
      (omega (arith, below_limit b slot job known works fresh, known.formed.allowed.attempts.1)) h.stop;
  breaks = λ b slot at piece attempted known h works fresh is.
      record { stop = λ note stopped. still_counted note b.calls b.reads (raised b.calls) b.reads (omega (arith, known.attempts.calls)) (omega arith) (h.stop note stopped) };
  stops = λ b known h. record { stop = stopped_counted b b.stopped refl h.stop };
}

-- ---- of every reached book

pub stop_counted : (told : Option (List FileText)) (b : SeenBook) → Reached told b → (note : FaultNote) → b.stopped ≡ Some (stop.Spent note) → IsNoteCounted note b.calls b.reads
stop_counted told b reached =
    (always_reached told (Both IsSane IsStopCounted) (kept_with told IsSane IsStopCounted (sane_always told) (keeps_stops told)) b reached).1.stop

pub counts_low : (told : Option (List FileText)) (b : SeenBook) → Reached told b → (b.calls ≤ greatest_count) × (b.reads ≤ greatest_count)
counts_low told b reached = let known = (reached_sane told b reached).attempts in (known.calls, known.reads)
