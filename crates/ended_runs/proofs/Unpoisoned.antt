-- A run of which no worked job's call fails has no failed call: what stops it are reads. So it is where no slot works poison, if calls fail on poison alone.
use Rattle.std.proofs.Common.{◌≡◌, inl, inr, ℕ, ◌+◌, ◌<◌, ◌≤◌, Bool, true, false, List, [], refl, sym, subst, ap, ◌∙◌, arith}
use Rattle.std.specs.Prelude.{Option, Some, None, ◌&&◌, nat_le}
use Rattle.std.specs.List.{flat_map, list_any}
use Rattle.std.proofs.lemmas.Bool.{false≢true}
use Rattle.std.proofs.lemmas.List.Elements.{All-head}
use Rattle.beam_values.specs.declared.cell.Pane.{Pane}
use Rattle.beam_values.specs.declared.fault.Cause.TheVariants.{Call, Read}
use Rattle.beam_values.specs.declared.fault.FaultNote.{FaultNote}
use Rattle.beam_values.specs.declared.file_text.FileText.{FileText}
use Rattle.beam_values.specs.declared.outcome.StopCause.{StopCause}
use Rattle.beam_values.specs.declared.outcome.StopCause.TheVariants as stop
use Rattle.beam_values.specs.declared.piece.Piece.{Piece}
use Rattle.beam_values.specs.declared.plan.Plan.{Plan}
use Rattle.beam_values.proofs.Spreads.{spread-single}
use Rattle.beam_model.specs.Coverings.{item_at, spread_of}
use Rattle.beam_model.specs.Positions.{SourceItem}
use Rattle.beam_model.specs.Spread.{is_poison, outputs_at, first_poison}
use Rattle.beam_model.specs.Flow.{batch_outputs}
use Rattle.beam_ports.specs.Counts.{raised}
use Rattle.stateful_core.specs.Cells.{KeyCell}
use Rattle.stateful_core.specs.KeyWork.{key_outputs}
use Rattle.stateful_core.specs.Taking.{change, with_job}
use Rattle.book_core.specs.Book.{SeenBook, panes_of, piece_of}
use Rattle.book_core.specs.Changes.{attempts_of, counted, ends_run, failed_where, given_back, is_broken, note_of, or_stopped, stopped_where, with_slot}
use Rattle.book_core.specs.Facts.{AreAttemptsCounted, IsBelowLimit, IsStopNoted}
use Rattle.book_core.specs.Jobs.{Due, GivenBack, Oldest, Next, attempted_of, job_of, next_job, without_due}
use Rattle.book_core.specs.Runs.{HonestRun, IsHonestAction, MadeStep}
use Rattle.book_core.specs.Sane.{IsSane}
use Rattle.book_core.specs.Steps.{Action, Enroll, Take, Claim, Split, Commit, Fail, Stop, Answer, Enrolled, TakenJob, Nothing, Finished, Stopped, Claimed, SplitAt, Committed, Noted, NoMemory, IsFresh, IsWorking, MayWorkOn, Step}
use Rattle.book_core.specs.Work.{IsHonest, IsHonestCall, IsHonestRead, IsPoisonAttempt, IsPoisonJob, Surroundings, is_known, items_told}
use Rattle.book_core.specs.declared.live.Live.{Live}
use Rattle.book_core.specs.declared.live.Live.TheVariants as live
use Rattle.book_core.proofs.Taking.{take_cases}
use Rattle.book_core.proofs.SaneAlways.{each_tried}
use Rattle.book_core.proofs.Slotted.{All-append_right, All-flat_at}
use Rattle.ended_runs.specs.RunsOn.{IsAtRest}
use Rattle.ended_runs.proofs.Poisons.{any_at, first_is_poison}
use Rattle.ended_runs.proofs.RunsOn.{IsOn, kept_on, on_after}
use Rattle.ended_runs.proofs.Stopped.{none_by_memory}

-- ---- what fails on poison is poison

module _ (known : Surroundings) (told : List FileText) (tells : known.told ≡ Some told) (plan : Plan) (panes : List Pane) where
  attempt_poison : (piece : Piece) (p at : ℕ) (item : Option SourceItem) → piece.range.from ≤ p → p < piece.range.to
      → first_poison (spread_of plan (record { from = p; to = p + 1 }) item) ≡ Some at → list_any is_poison (spread_of plan piece.range item) ≡ true
  attempt_poison piece p at None low high first = absurd cc
  attempt_poison piece p at (Some item) low high first =
      let here = spread-single (outputs_at plan item) p in
      any_at (outputs_at plan item) piece.range.from p piece.range.to low high
      (first_is_poison (outputs_at plan item p) at (ap first_poison (sym here) ∙ first))

  pub call_is_poison : (job : Live) (at : ℕ) → IsHonestCall known plan (job_of panes job) (attempted_of job) at → IsPoisonJob known.told plan (job_of panes job)
  call_is_poison (live.Span piece attempted) at honest = elim honest [
    | inl unknown ↦ absurd (false≢true (sym (subst (λ (t : Option (List FileText)). is_known t plan piece.node ≡ false) tells unknown)))
    | inr attempt ↦ of attempted attempt
  ]
    where
      of : (a : Option ℕ) → IsPoisonAttempt known.told plan piece a at → IsPoisonJob known.told plan (job_of panes (live.Span piece a))
      of None attempt = absurd attempt
      of (Some p) attempt = attempt_poison piece p at (item_at (items_told known.told plan) piece.node piece.item) attempt.0 attempt.1 attempt.2
  call_is_poison (live.Batch batch) at honest = first_is_poison (batch_outputs plan batch.node (panes_of panes batch.panes)) at honest
  call_is_poison (live.Key turn) at honest =
      first_is_poison (key_outputs plan turn.node turn.key turn.span turn.inputs (record { cells = turn.state; timers = turn.timers })) at honest

-- ---- the counts of a book

abbrev Counts : Type 0
Counts = ℕ × (ℕ × Option StopCause)

abbrev counts_of : SeenBook → Counts
counts_of b = (b.calls, (b.reads, b.stopped))

-- No call has failed but so many before, and what stopped the book failed no more often than these and reads did.
abbrev AreReads : ℕ → Counts → Type 0
AreReads before (calls, (reads, stopped)) = (calls ≡ before) × ((note : FaultNote) → stopped ≡ Some (stop.Spent note) → (note.attempt ≤ before + reads) × (note.attempt ≤ 1000))

-- a take changes nothing of the rest but what waits
module _ {X : Type 0} (of : SeenBook → X) (b : SeenBook) (pending : (ps : List Piece) → of (record b { pending = ps }) ≡ of b)
    (due : (d : Due) → of (without_due b d).rest ≡ of b) (keyed : (cells : List KeyCell) → of (record b { keys = cells }) ≡ of b) where
  pub take_keeps : (next : Next) → next_job b ≡ Some next → of next.rest ≡ of b
  take_keeps next is =
      take_cases b (λ (n : Next). of n.rest ≡ of b) (λ batch among. due (GivenBack batch)) (λ batch oldest. due (Oldest batch))
      (λ place cell found. keyed (change (with_job b.options.bundle) place.at b.keys)) (λ piece later e. pending later) next is

due_counts : (b : SeenBook) (d : Due) → counts_of (without_due b d).rest ≡ counts_of b
due_counts b (GivenBack batch) = refl
due_counts b (Oldest batch) = refl

read_counts : (b : SeenBook) (slot : ℕ) (job : Live) (at : ℕ) → counts_of (counted (given_back (with_slot b slot None) job at Read) Read) ≡ (b.calls, (raised b.reads, b.stopped))
read_counts b slot (live.Span piece attempted) at = refl
read_counts b slot (live.Batch batch) at = refl
read_counts b slot (live.Key turn) at = refl

same_counts : (before : ℕ) (b new : SeenBook) → counts_of new ≡ counts_of b → AreReads before (counts_of b) → AreReads before (counts_of new)
same_counts before b new same reads = subst (AreReads before) (sym same) reads

-- ---- a fail by a read

-- what was read is no range that is broken
pub read_tries : (b : SeenBook) (job : Live) → is_broken b job Read ≡ false
read_tries b job = by job
  where
    never : (t : Bool) → (t && false) ≡ false
    never true = refl
    never false = refl

    by : (j : Live) → is_broken b j Read ≡ false
    by (live.Span piece attempted) = never (nat_le b.options.attempts (piece.attempts + 1))
    by (live.Batch batch) = never (nat_le b.options.attempts (batch.attempts + 1))
    by (live.Key turn) = never (nat_le b.options.attempts (turn.attempts + 1))

once_more : (before attempts reads : ℕ) → attempts ≤ before + reads → attempts < 1000 → attempts + 1 ≤ before + raised reads
once_more before attempts reads most few = omega arith

kept_under : (before attempt reads : ℕ) → attempt ≤ before + reads → attempt ≤ 1000 → attempt ≤ before + raised reads
kept_under before attempt reads most few = omega arith

module _ (before : ℕ) (b : SeenBook) (slot at : ℕ) (job : Live) (may : MayWorkOn b slot job) (honest : IsHonestRead b.plan (job_of b.panes job) at) (sane : IsSane b)
    (h : AreReads before (counts_of b)) where
  job_tried : (attempts_of job < b.options.attempts) × (attempts_of job ≤ b.calls + b.reads)
  job_tried = by job may.works may.fresh honest
    where
      counts : AreAttemptsCounted b
      counts = sane.attempts

      by : (j : Live) → IsWorking b slot j → IsFresh j → IsHonestRead b.plan (job_of b.panes j) at → (attempts_of j < b.options.attempts) × (attempts_of j ≤ b.calls + b.reads)
      by (live.Span piece attempted) is fresh reads = (
        All-head (λ (x : Piece). x.spent ≡ None → IsBelowLimit b x.attempts) piece []
            (All-flat_at piece_of b.slots slot (λ (x : Piece). x.spent ≡ None → IsBelowLimit b x.attempts) (Some (live.Span piece attempted)) is counts.worked_pieces) fresh,
        All-head (λ (x : Piece). x.attempts ≤ b.calls + b.reads) piece []
            (All-flat_at piece_of b.slots slot (λ (x : Piece). x.attempts ≤ b.calls + b.reads) (Some (live.Span piece attempted)) is
            (All-append_right (λ (x : Piece). x.attempts ≤ b.calls + b.reads) b.pending (flat_map piece_of b.slots) (each_tried b counts))),
      )
      by (live.Batch batch) is fresh reads = absurd reads
      by (live.Key turn) is fresh reads = absurd reads

  own_attempt : (note_of job at Read).attempt ≡ attempts_of job + 1
  own_attempt = by job
    where
      by : (j : Live) → (note_of j at Read).attempt ≡ attempts_of j + 1
      by (live.Span piece attempted) = refl
      by (live.Batch batch) = refl
      by (live.Key turn) = refl

  few_tries : attempts_of job < 1000
  few_tries = omega (arith, job_tried.0, sane.formed.allowed.attempts.1)

  still : (note : FaultNote) → b.stopped ≡ Some (stop.Spent note) → (note.attempt ≤ before + raised b.reads) × (note.attempt ≤ 1000)
  still note is = let was = h.1 note is in (kept_under before note.attempt b.reads was.0 was.1, was.1)

  new_note : (note_of job at Read).attempt ≤ before + raised b.reads
  new_note = subst (λ (n : ℕ). n ≤ before + raised b.reads) (sym own_attempt) (once_more before (attempts_of job) b.reads (omega (arith, job_tried.1, h.0)) few_tries)

  stopped_then : (kept : Option StopCause) → b.stopped ≡ kept → (note : FaultNote) → or_stopped kept (stop.Spent (note_of job at Read)) ≡ Some (stop.Spent note)
      → (note.attempt ≤ before + raised b.reads) × (note.attempt ≤ 1000)
  stopped_then (Some cause) is note e = still note (is ∙ e)
  stopped_then None is note e =
      let same : note_of job at Read ≡ note = cc in (
        subst (λ (n : FaultNote). n.attempt ≤ before + raised b.reads) same new_note,
        subst (λ (n : FaultNote). n.attempt ≤ 1000) same (omega (arith, own_attempt, few_tries)),
      )

  read_fails : (spent : Bool) (x : SeenBook) → counts_of x ≡ (b.calls, (raised b.reads, b.stopped)) → AreReads before (counts_of (stopped_where spent x (note_of job at Read)))
  read_fails false x is = subst (AreReads before) (sym is) (h.0, still)
  read_fails true x is =
      subst (AreReads before) (sym (ap (λ (t : Counts). (t.0, (t.1.0, or_stopped t.1.1 (stop.Spent (note_of job at Read))))) is)) (h.0, stopped_then b.stopped refl)

-- ---- one step

-- a call of a job that a slot works, as it fails honestly
abbrev pub FailsCall : Surroundings → SeenBook → Live → ℕ → Type 0
FailsCall known b job at = IsHonest known b.plan (job_of b.panes job) (attempted_of job) at Call

-- no call fails of what a slot works
abbrev pub FailsNoCall : Surroundings → SeenBook → Type 0
FailsNoCall known b = (slot : ℕ) (job : Live) (at : ℕ) → IsWorking b slot job → FailsCall known b job at → ⊥

module _ (known : Surroundings) (before : ℕ) where
  step_reads : (b new : SeenBook) (slot : ℕ) (action : Action) (answer : Answer) → Step known.told b slot action answer new → IsHonestAction known b slot action
      → IsSane b → FailsNoCall known b → AreReads before (counts_of b) → AreReads before (counts_of new)
  step_reads b new slot Enroll (Enrolled number) step honest sane never h = same_counts before b new (ap counts_of step.2) h
  step_reads b new slot Enroll NoMemory step honest sane never h = same_counts before b new (ap counts_of step) h
  step_reads b new slot Take (TakenJob job) step honest sane never h =
      same_counts before b new (ap counts_of step.is ∙ take_keeps counts_of b (λ ps. refl) (due_counts b) (λ cells. refl) step.next step.is_next) h
  step_reads b new slot Take Nothing step honest sane never h = same_counts before b new (ap counts_of step.4) h
  step_reads b new slot Take Finished step honest sane never h = same_counts before b new (ap counts_of step.4) h
  step_reads b new slot Take Stopped step honest sane never h = same_counts before b new (ap counts_of step.2) h
  step_reads b new slot Take NoMemory step honest sane never h = same_counts before b new (ap counts_of step.1) h
  step_reads b new slot (Claim p) (Claimed granted) step honest sane never h = same_counts before b new (ap counts_of step.is) h
  step_reads b new slot (Split num den) (SplitAt (Some at)) step honest sane never h = same_counts before b new (ap counts_of step.0.is) h
  step_reads b new slot (Split num den) (SplitAt None) step honest sane never h = same_counts before b new (ap counts_of step.1) h
  step_reads b new slot (Split num den) NoMemory step honest sane never h = same_counts before b new (ap counts_of step) h
  step_reads b new slot Commit Committed step honest sane never h = same_counts before b new (ap counts_of step.1.commit.is) h
  step_reads b new slot Commit NoMemory step honest sane never h = same_counts before b new (ap counts_of step.1) h
  step_reads b new slot (Fail at Call) answer step honest sane never h = absurd (never slot step.job at step.works.works (honest step.job step.works.works))
  step_reads b new slot (Fail at Read) answer step honest sane never h =
      subst (λ (x : SeenBook). AreReads before (counts_of x)) (sym (step.is ∙ ap (λ (t : Bool). failed_where t b slot step.job at Read) (read_tries b step.job)))
      (read_fails before b slot at step.job step.works (honest step.job step.works.works) sane h (ends_run b step.job Read) (counted (given_back (with_slot b slot None) step.job at Read) Read) (read_counts b slot step.job at))
  step_reads b new slot Stop Noted step honest sane never h =
      subst (λ (x : SeenBook). AreReads before (counts_of x)) (sym step) (h.0, λ note is. h.1 note (none_by_memory b.stopped note is))
  step_reads b new slot _ _ step honest sane never h = absurd step

-- ---- all steps

module _ (known : Surroundings) (first : SeenBook) (rest : IsAtRest first) (never : (b : SeenBook) → IsOn known first b → FailsNoCall known b)
    (steps : List MadeStep) (b : SeenBook) (run : HonestRun known first steps b) where
  counts_kept : AreReads first.calls (counts_of b)
  counts_kept =
      kept_on known first (λ (x : SeenBook). AreReads first.calls (counts_of x))
      (λ x new slot action answer on step honest h. step_reads known first.calls x new slot action answer step honest on.sane (never x on) h)
      rest.sane (refl, λ note is. absurd (let none : None ≡ Some (stop.Spent note) = sym rest.running ∙ is in cc)) steps b run

  pub no_calls : b.calls ≡ first.calls
  no_calls = counts_kept.0

  pub attempts_by_reads : (note : FaultNote) → b.stopped ≡ Some (stop.Spent note) → b.options.attempts ≤ first.calls + b.reads
  attempts_by_reads note is =
      let noted : IsStopNoted b (Some (stop.Spent note)) = subst (IsStopNoted b) is (on_after known first rest.sane steps b run).sane.stop in
      subst (λ (n : ℕ). n ≤ first.calls + b.reads) noted.0 (counts_kept.1 note is).0

-- ---- where calls fail on poison alone

-- no slot works a poison job
abbrev pub WorksNoPoison : Surroundings → SeenBook → Type 0
WorksNoPoison known b = (slot : ℕ) (job : Live) → IsWorking b slot job → IsPoisonJob known.told b.plan (job_of b.panes job) → ⊥

pub poison_alone : (known : Surroundings) (told : List FileText) (tells : known.told ≡ Some told) (strict : known.strict ≡ true) (b : SeenBook) → WorksNoPoison known b → FailsNoCall known b
poison_alone known told tells strict b never slot job at works honest = elim honest [
  | inl loose ↦ false≢true (sym loose ∙ strict)
  | inr called ↦ never slot job works (call_is_poison known told tells b.plan b.panes job at called)
]
