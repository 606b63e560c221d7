-- What stops a run is a read, where no call that fails honestly ends it: where no call fails, and where positions are set aside and no batch or key job is poison.
use Rattle.std.proofs.Common.{◌≡◌, inl, inr, ℕ, ◌+◌, ◌≤◌, Bool, true, false, List, refl, sym, subst, ap, ◌∙◌, arith}
use Rattle.std.specs.Prelude.{Option, Some, None, ◌&&◌, not, nat_le}
use Rattle.std.proofs.lemmas.Bool.{false≢true}
use Rattle.std.proofs.lemmas.Bool.Decides.{nat_tests}
use Rattle.beam_values.specs.declared.fault.Cause.{Cause}
use Rattle.beam_values.specs.declared.fault.Cause.TheVariants.{Call, Read}
use Rattle.beam_values.specs.declared.fault.FaultNote.{FaultNote}
use Rattle.beam_values.specs.declared.outcome.StopCause.{StopCause}
use Rattle.beam_values.specs.declared.outcome.StopCause.TheVariants as stop
use Rattle.beam_values.specs.declared.piece.Piece.{Piece}
use Rattle.beam_model.specs.Flow.{batch_outputs}
use Rattle.beam_ports.specs.Counts.{Rose, greatest_count, raised}
use Rattle.stateful_core.specs.KeyWork.{key_outputs}
use Rattle.book_core.specs.Book.{SeenBook, panes_of, sets_aside}
use Rattle.book_core.specs.Changes.{counted, ends_run, failed_where, given_back, is_broken, note_of, or_stopped, stopped_where, with_slot}
use Rattle.book_core.specs.Jobs.{Due, GivenBack, Oldest, attempted_of, job_of, without_due}
use Rattle.book_core.specs.Runs.{HonestRun, IsHonestAction, IsOpening, MadeStep}
use Rattle.book_core.specs.Steps.{Action, Enroll, Take, Claim, Split, Commit, Fail, Stop, Answer, Enrolled, TakenJob, Nothing, Finished, Stopped, Claimed, SplitAt, Committed, Noted, NoMemory, IsWorking, Step}
use Rattle.book_core.specs.Work.{IsHonest, Surroundings}
use Rattle.book_core.specs.declared.live.Live.{Live}
use Rattle.book_core.specs.declared.live.Live.TheVariants as live
use Rattle.ended_runs.specs.DeadLetters.{IsStoppedByRead}
use Rattle.ended_runs.specs.RunsOn.{FailsByReads, IsAtRest, IsStoppedByReadAfter}
use Rattle.ended_runs.proofs.Poisons.{first_is_poison}
use Rattle.ended_runs.proofs.RunsOn.{IsOn, kept_on}
use Rattle.ended_runs.proofs.Stopped.{none_by_memory}
use Rattle.ended_runs.proofs.TakesUnpoisoned.{WorksNoPoisonBeside}
use Rattle.ended_runs.proofs.Unpoisoned.{FailsCall, FailsNoCall, attempts_by_reads, no_calls, read_tries, take_keeps}

-- ---- what of a book says how it was stopped

abbrev State : Type 0
State = ℕ × Option StopCause

abbrev state_of : SeenBook → State
state_of b = (b.reads, b.stopped)

-- No fewer reads failed than before. What stopped the book is a read, and one more is counted than before, or as many as can be.
abbrev IsReadStop : ℕ → State → Type 0
IsReadStop before (reads, stopped) = (before ≤ reads) × ((note : FaultNote) → stopped ≡ Some (stop.Spent note) → (note.cause ≡ Read) × (raised before ≤ reads))

same_state : (before : ℕ) (b new : SeenBook) → state_of new ≡ state_of b → IsReadStop before (state_of b) → IsReadStop before (state_of new)
same_state before b new same h = subst (IsReadStop before) (sym same) h

due_state : (b : SeenBook) (d : Due) → state_of (without_due b d).rest ≡ state_of b
due_state b (GivenBack batch) = refl
due_state b (Oldest batch) = refl

-- ---- a fail

back_state : (b : SeenBook) (slot : ℕ) (job : Live) (at : ℕ) (cause : Cause) → state_of (counted (given_back (with_slot b slot None) job at cause) cause) ≡ state_of (counted b cause)
back_state b slot (live.Span piece attempted) at Call = refl
back_state b slot (live.Span piece attempted) at Read = refl
back_state b slot (live.Batch batch) at Call = refl
back_state b slot (live.Batch batch) at Read = refl
back_state b slot (live.Key turn) at Call = refl
back_state b slot (live.Key turn) at Read = refl

own_cause : (job : Live) (at : ℕ) (cause : Cause) → (note_of job at cause).cause ≡ cause
own_cause (live.Span piece attempted) at cause = refl
own_cause (live.Batch batch) at cause = refl
own_cause (live.Key turn) at cause = refl

module _ (before : ℕ) (few : before ≤ greatest_count) where
  more_reads : (reads : ℕ) → before ≤ reads → (before ≤ raised reads) × (raised before ≤ raised reads)
  more_reads reads h = (omega arith, omega arith)

  -- a read failed, and may have stopped the book
  read_stops : (b x : SeenBook) (job : Live) (at : ℕ) (ends : Bool) → state_of x ≡ (raised b.reads, b.stopped) → IsReadStop before (state_of b)
      → IsReadStop before (state_of (stopped_where ends x (note_of job at Read)))
  read_stops b x job at false same h = subst (IsReadStop before) (sym same) ((more_reads b.reads h.0).0, λ note e. ((h.1 note e).0, (more_reads b.reads h.0).1))
  read_stops b x job at true same h =
      subst (IsReadStop before) (sym (ap (λ (t : State). (t.0, or_stopped t.1 (stop.Spent (note_of job at Read)))) same))
      ((more_reads b.reads h.0).0, λ note e. (by b.stopped refl note e, (more_reads b.reads h.0).1))
    where
      by : (kept : Option StopCause) → b.stopped ≡ kept → (note : FaultNote) → or_stopped kept (stop.Spent (note_of job at Read)) ≡ Some (stop.Spent note) → note.cause ≡ Read
      by (Some kept) was note e = (h.1 note (was ∙ e)).0
      by None was note e = let own : note_of job at Read ≡ note = cc in subst (λ (n : FaultNote). n.cause ≡ Read) own (own_cause job at Read)

  -- a call failed, and did not end the run
  call_stops : (b : SeenBook) (slot at : ℕ) (broken : Bool) (job : Live) → ends_run b job Call ≡ false → IsReadStop before (state_of b)
      → IsReadStop before (state_of (failed_where broken b slot job at Call))
  call_stops b slot at true (live.Span piece attempted) ends h = h
  call_stops b slot at _ job ends h =
      let back = counted (given_back (with_slot b slot None) job at Call) Call in
      subst (λ (t : Bool). IsReadStop before (state_of (stopped_where t back (note_of job at Call)))) (sym ends) (same_state before b back (back_state b slot job at Call) h)

-- ---- calls that end no run

-- no call of what a slot works ends the run where it fails
abbrev pub EndsByNoCall : Surroundings → SeenBook → Type 0
EndsByNoCall known b = (slot : ℕ) (job : Live) (at : ℕ) → IsWorking b slot job → FailsCall known b job at → ends_run b job Call ≡ false

-- a call on a range ends none where positions are set aside
never_ends : (b : SeenBook) (piece : Piece) (attempted : Option ℕ) → sets_aside b.plan ≡ true → ends_run b (live.Span piece attempted) Call ≡ false
never_ends b piece attempted aside = ap (λ (t : Bool). nat_le b.options.attempts (piece.attempts + 1) && not t) aside ∙ by (nat_le b.options.attempts (piece.attempts + 1))
  where
    by : (t : Bool) → (t && false) ≡ false
    by true = refl
    by false = refl

pub aside_ends : (known : Surroundings) → known.strict ≡ true → (b : SeenBook) → sets_aside b.plan ≡ true → WorksNoPoisonBeside b → EndsByNoCall known b
aside_ends known strict b aside none slot (live.Span piece attempted) at works honest = never_ends b piece attempted aside
aside_ends known strict b aside none slot (live.Batch batch) at works honest = elim honest [
  | inl loose ↦ absurd (false≢true (sym loose ∙ strict))
  | inr called ↦ absurd (none slot (live.Batch batch) works (first_is_poison (batch_outputs b.plan batch.node (panes_of b.panes batch.panes)) at called))
]
aside_ends known strict b aside none slot (live.Key turn) at works honest = elim honest [
  | inl loose ↦ absurd (false≢true (sym loose ∙ strict))
  | inr called ↦ absurd
      (none slot (live.Key turn) works (first_is_poison (key_outputs b.plan turn.node turn.key turn.span turn.inputs (record { cells = turn.state; timers = turn.timers })) at called))
]

-- ---- one step

module _ (known : Surroundings) (before : ℕ) (few : before ≤ greatest_count) where
  fail_state : (b : SeenBook) (slot at : ℕ) (job : Live) (cause : Cause) → EndsByNoCall known b → IsWorking b slot job
      → IsHonest known b.plan (job_of b.panes job) (attempted_of job) at cause → IsReadStop before (state_of b)
      → IsReadStop before (state_of (failed_where (is_broken b job cause) b slot job at cause))
  fail_state b slot at job Call none works honest h = call_stops before few b slot at (is_broken b job Call) job (none slot job at works honest) h
  fail_state b slot at job Read none works honest h =
      subst (λ (t : Bool). IsReadStop before (state_of (failed_where t b slot job at Read))) (sym (read_tries b job))
      (read_stops before few b (counted (given_back (with_slot b slot None) job at Read) Read) job at (ends_run b job Read) (back_state b slot job at Read) h)

  step_state : (b new : SeenBook) (slot : ℕ) (action : Action) (answer : Answer) → Step known.told b slot action answer new → IsHonestAction known b slot action → EndsByNoCall known b
      → IsReadStop before (state_of b) → IsReadStop before (state_of new)
  step_state b new slot Enroll (Enrolled number) step honest none h = same_state before b new (ap state_of step.2) h
  step_state b new slot Enroll NoMemory step honest none h = same_state before b new (ap state_of step) h
  step_state b new slot Take (TakenJob job) step honest none h =
      same_state before b new (ap state_of step.is ∙ take_keeps state_of b (λ ps. refl) (due_state b) (λ cells. refl) step.next step.is_next) h
  step_state b new slot Take Nothing step honest none h = same_state before b new (ap state_of step.4) h
  step_state b new slot Take Finished step honest none h = same_state before b new (ap state_of step.4) h
  step_state b new slot Take Stopped step honest none h = same_state before b new (ap state_of step.2) h
  step_state b new slot Take NoMemory step honest none h = same_state before b new (ap state_of step.1) h
  step_state b new slot (Claim p) (Claimed granted) step honest none h = same_state before b new (ap state_of step.is) h
  step_state b new slot (Split num den) (SplitAt (Some at)) step honest none h = same_state before b new (ap state_of step.0.is) h
  step_state b new slot (Split num den) (SplitAt None) step honest none h = same_state before b new (ap state_of step.1) h
  step_state b new slot (Split num den) NoMemory step honest none h = same_state before b new (ap state_of step) h
  step_state b new slot Commit Committed step honest none h = same_state before b new (ap state_of step.1.commit.is) h
  step_state b new slot Commit NoMemory step honest none h = same_state before b new (ap state_of step.1) h
  step_state b new slot (Fail at cause) answer step honest none h =
      subst (λ (x : SeenBook). IsReadStop before (state_of x)) (sym step.is) (fail_state b slot at step.job cause none step.works.works (honest step.job step.works.works) h)
  step_state b new slot Stop Noted step honest none h =
      subst (λ (x : SeenBook). IsReadStop before (state_of x)) (sym step) (h.0, λ note e. h.1 note (none_by_memory b.stopped note e))
  step_state b new slot _ _ step honest none h = absurd step

-- ---- all steps

rose : (before now : ℕ) → raised before ≤ now → Rose before now
rose before now h = grind (arith, nat_tests)

pub stopped_by_read : (known : Surroundings) (first : SeenBook) → IsAtRest first → ((b : SeenBook) → IsOn known first b → EndsByNoCall known b)
    → (steps : List MadeStep) (b : SeenBook) → HonestRun known first steps b → IsStoppedByReadAfter first b
stopped_by_read known first rest none steps b run note is =
    let few = rest.sane.attempts.reads in
    let h : IsReadStop first.reads (state_of b) =
    kept_on known first (λ (x : SeenBook). IsReadStop first.reads (state_of x))
    (λ x new slot action answer on step honest h. step_state known first.reads few x new slot action answer step honest (none x on) h)
    rest.sane (omega arith, λ other e. absurd (let never : None ≡ Some (stop.Spent other) = sym rest.running ∙ e in cc)) steps b run in
    ((h.1 note is).0, rose first.reads b.reads (h.1 note is).1)

-- no call failed, and it was stopped by reads
pub fails_by_reads : (known : Surroundings) (first : SeenBook) → IsAtRest first → ((b : SeenBook) → IsOn known first b → FailsNoCall known b)
    → (steps : List MadeStep) (b : SeenBook) → HonestRun known first steps b → FailsByReads first b
fails_by_reads known first rest never steps b run = record {
  calls = no_calls known first rest never steps b run;
  stopped = stopped_by_read known first rest (λ x on slot job at works honest. absurd (never x on slot job at works honest)) steps b run;
  attempts = attempts_by_reads known first rest never steps b run;
}

-- ---- a run from an opening

some_reads : (before now : ℕ) → before ≡ 0 → Rose before now → 1 ≤ now
some_reads before now none h = grind (arith, nat_tests)

-- nothing had failed there
module _ (b first : SeenBook) (opening : IsOpening b.plan b.files b.options first) where
  no_calls_yet : first.calls ≡ 0
  no_calls_yet = ap (λ (x : SeenBook). x.calls) opening.is

  pub calls_from_opening : FailsByReads first b → b.calls ≡ 0
  calls_from_opening h = h.calls ∙ no_calls_yet

  pub attempts_from_opening : FailsByReads first b → (note : FaultNote) → b.stopped ≡ Some (stop.Spent note) → b.options.attempts ≤ b.reads
  attempts_from_opening h note is = omega (arith, h.attempts note is, no_calls_yet)

  pub read_from_opening : IsStoppedByReadAfter first b → IsStoppedByRead b
  read_from_opening h note is = let was = h note is in (was.0, some_reads first.reads b.reads (ap (λ (x : SeenBook). x.reads) opening.is) was.1)
