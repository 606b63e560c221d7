-- What stopped a run by a fault is found in the run.
use Rattle.std.proofs.Common.{◌≡◌, ◌⊎◌, inl, inr, ℕ, Bool, true, false, List, [], ◌∷◌, ◌++◌, refl, sym, subst, ap, ◌∙◌}
use Rattle.std.specs.Prelude.{Option, Some, None}
use Rattle.beam_values.specs.declared.fault.Cause.{Cause}
use Rattle.beam_values.specs.declared.fault.Cause.TheVariants.{Call, Read}
use Rattle.beam_values.specs.declared.fault.FaultNote.{FaultNote}
use Rattle.beam_values.specs.declared.outcome.StopCause.{StopCause}
use Rattle.beam_values.specs.declared.outcome.StopCause.TheVariants as stop
use Rattle.book_core.specs.Book.{SeenBook}
use Rattle.book_core.specs.Changes.{counted, ends_run, failed_where, given_back, is_broken, note_of, or_stopped, stopped_where, tried_again, with_slot}
use Rattle.book_core.specs.Facts.{IsStopNoted}
use Rattle.book_core.specs.Jobs.{Next, attempted_of, job_of, next_job}
use Rattle.book_core.specs.Runs.{HonestRun, HonestlyReached, IsHonestAction, IsOpening, MadeStep}
use Rattle.book_core.specs.Steps.{Action, Enroll, Take, Claim, Split, Commit, Fail, Stop, Answer, Enrolled, TakenJob, Nothing, Finished, Stopped, Claimed, SplitAt, Committed, Noted, NoMemory, IsWorking, Step}
use Rattle.book_core.specs.Work.{IsHonest, Surroundings}
use Rattle.book_core.specs.declared.live.Live.{Live}
use Rattle.book_core.specs.declared.live.Live.TheVariants as live
use Rattle.book_core.proofs.Taking.{take_cases}
use Rattle.book_core.proofs.Reaching.{HasSamePlan, opening_of, step_same}
use Rattle.ended_runs.specs.Stops.{IsHonestStop}

-- what a stop says, but for the number of its attempts
record FoundStop (known : Surroundings) (b : SeenBook) (note : FaultNote) : Type 0 where
  before : SeenBook
  reached : HonestlyReached known before
  steps : List MadeStep
  onward : HonestRun known before steps b
  plan : before.plan ≡ b.plan
  slot : ℕ
  job : Live
  works : IsWorking before slot job
  tells : note ≡ note_of job note.at note.cause
  honest : IsHonest known before.plan (job_of before.panes job) (attempted_of job) note.at note.cause

abbrev Finds : Surroundings → SeenBook → Type 0
Finds known b = (note : FaultNote) → b.stopped ≡ Some (stop.Spent note) → FoundStop known b note

-- ---- a longer run

pub honest_run_more : (known : Surroundings) (steps : List MadeStep) (b mid end : SeenBook) (made : MadeStep) → HonestRun known b steps mid
    → Step known.told mid made.slot made.action made.answer end → IsHonestAction known mid made.slot made.action → HonestRun known b (steps ++ made ∷ []) end
honest_run_more known [] b mid end made run step honest =
    (end, subst (λ (x : SeenBook). Step known.told x made.slot made.action made.answer end) run step, subst (λ (x : SeenBook). IsHonestAction known x made.slot made.action) run honest, refl)
honest_run_more known (first ∷ later) b mid end made run step honest = (run.0, run.1, run.2, honest_run_more known later run.0 mid end made run.3 step honest)

pub honest_more : (known : Surroundings) (b new : SeenBook) (made : MadeStep) → Step known.told b made.slot made.action made.answer new → IsHonestAction known b made.slot made.action
    → HonestlyReached known b → HonestlyReached known new
honest_more known b new made step honest reached = record {
  first = reached.first;
  opening = opening_of reached.first b new (step_same known.told b new made.slot made.action made.answer step) reached.opening;
  steps = reached.steps ++ made ∷ [];
  run = honest_run_more known reached.steps reached.first b new made reached.run step honest;
}

-- ---- one step

-- a fail in this very step gave the note
record GivesNote (known : Surroundings) (b : SeenBook) (slot : ℕ) (note : FaultNote) : Type 0 where
  job : Live
  works : IsWorking b slot job
  tells : note ≡ note_of job note.at note.cause
  honest : IsHonest known b.plan (job_of b.panes job) (attempted_of job) note.at note.cause

-- a note that stops the book after a step stopped it before, or comes of the step
abbrev StopsBy : Surroundings → SeenBook → ℕ → SeenBook → Type 0
StopsBy known b slot new = (note : FaultNote) → new.stopped ≡ Some (stop.Spent note) → (b.stopped ≡ Some (stop.Spent note)) ⊎ GivesNote known b slot note

-- a step that leaves the cause of a stop as it was
stops_same : (known : Surroundings) (b : SeenBook) (slot : ℕ) (new : SeenBook) → new.stopped ≡ b.stopped → StopsBy known b slot new
stops_same known b slot new same note is = inl (sym same ∙ is)

take_stopped : (b : SeenBook) (next : Next) → next_job b ≡ Some next → next.rest.stopped ≡ b.stopped
take_stopped b next is =
    take_cases b (λ (n : Next). n.rest.stopped ≡ b.stopped) (λ batch among. refl) (λ batch oldest. refl) (λ place cell found. refl) (λ piece later e. refl) next is

back_stopped : (b : SeenBook) (slot : ℕ) (job : Live) (at : ℕ) (cause : Cause) → (counted (given_back (with_slot b slot None) job at cause) cause).stopped ≡ b.stopped
back_stopped b slot (live.Span piece attempted) at Call = refl
back_stopped b slot (live.Span piece attempted) at Read = refl
back_stopped b slot (live.Batch batch) at Call = refl
back_stopped b slot (live.Batch batch) at Read = refl
back_stopped b slot (live.Key turn) at Call = refl
back_stopped b slot (live.Key turn) at Read = refl

pub none_by_memory : (kept : Option StopCause) (note : FaultNote) → or_stopped kept stop.NoMemory ≡ Some (stop.Spent note) → kept ≡ Some (stop.Spent note)
none_by_memory None note e = absurd (cc)
none_by_memory (Some kept) note e = e

module _ (known : Surroundings) (b : SeenBook) (slot at : ℕ) (cause : Cause) (job : Live) (works : IsWorking b slot job)
    (honest : IsHonest known b.plan (job_of b.panes job) (attempted_of job) at cause) where
  abbrev own_note : FaultNote
  own_note = note_of job at cause

  own_at : (note_of job at cause).at ≡ at
  own_at = by job
    where
      by : (j : Live) → (note_of j at cause).at ≡ at
      by (live.Span piece attempted) = refl
      by (live.Batch batch) = refl
      by (live.Key turn) = refl

  own_cause : (note_of job at cause).cause ≡ cause
  own_cause = by job
    where
      by : (j : Live) → (note_of j at cause).cause ≡ cause
      by (live.Span piece attempted) = refl
      by (live.Batch batch) = refl
      by (live.Key turn) = refl

  own_gives : GivesNote known b slot own_note
  own_gives = record {
    job = job;
    works = works;
    tells = sym (λ i. note_of job (own_at i) (own_cause i));
    honest = subst (λ (n : ℕ). IsHonest known b.plan (job_of b.panes job) (attempted_of job) n own_note.cause) (sym own_at)
        (subst (λ (c : Cause). IsHonest known b.plan (job_of b.panes job) (attempted_of job) at c) (sym own_cause) honest);
  }

  fail_stops : (spent : Bool) (x : SeenBook) (kept : Option StopCause) → x.stopped ≡ kept → b.stopped ≡ kept → (note : FaultNote)
      → (stopped_where spent x own_note).stopped ≡ Some (stop.Spent note) → (b.stopped ≡ Some (stop.Spent note)) ⊎ GivesNote known b slot note
  fail_stops false x kept is was note e = inl (was ∙ sym is ∙ e)
  fail_stops true x (Some kept) is was note e = inl (was ∙ sym (ap (λ (s : Option StopCause). or_stopped s (stop.Spent own_note)) is) ∙ e)
  fail_stops true x None is was note e =
      let same : Some (stop.Spent own_note) ≡ Some (stop.Spent note) = sym (ap (λ (s : Option StopCause). or_stopped s (stop.Spent own_note)) is) ∙ e in
      let own : own_note ≡ note = cc in
      inr (subst (GivesNote known b slot) own own_gives)

-- a range that is broken stops nothing
fail_stops_where : (known : Surroundings) (b : SeenBook) (slot at : ℕ) (cause : Cause) (job : Live) (works : IsWorking b slot job)
    → IsHonest known b.plan (job_of b.panes job) (attempted_of job) at cause → (broken : Bool) → StopsBy known b slot (failed_where broken b slot job at cause)
fail_stops_where known b slot at cause job works honest = by job again
  where
    again : StopsBy known b slot (tried_again b slot job at cause)
    again =
        fail_stops known b slot at cause job works honest (ends_run b job cause) (counted (given_back (with_slot b slot None) job at cause) cause) b.stopped (back_stopped b slot job at cause) refl

    by : (j : Live) → StopsBy known b slot (tried_again b slot j at cause) → (broken : Bool) → StopsBy known b slot (failed_where broken b slot j at cause)
    by (live.Span piece attempted) h true = λ note is. inl is
    by (live.Span piece attempted) h false = h
    by (live.Batch batch) h true = h
    by (live.Batch batch) h false = h
    by (live.Key turn) h true = h
    by (live.Key turn) h false = h

step_stops : (known : Surroundings) (b new : SeenBook) (slot : ℕ) (action : Action) (answer : Answer) → Step known.told b slot action answer new → IsHonestAction known b slot action
    → StopsBy known b slot new
step_stops known b new slot Enroll (Enrolled number) step honest = stops_same known b slot new (ap (λ (x : SeenBook). x.stopped) step.2)
step_stops known b new slot Enroll NoMemory step honest = stops_same known b slot new (ap (λ (x : SeenBook). x.stopped) step)
step_stops known b new slot Take (TakenJob job) step honest =
    stops_same known b slot new (ap (λ (x : SeenBook). x.stopped) step.is ∙ take_stopped b step.next step.is_next)
step_stops known b new slot Take Nothing step honest = stops_same known b slot new (ap (λ (x : SeenBook). x.stopped) step.4)
step_stops known b new slot Take Finished step honest = stops_same known b slot new (ap (λ (x : SeenBook). x.stopped) step.4)
step_stops known b new slot Take Stopped step honest = stops_same known b slot new (ap (λ (x : SeenBook). x.stopped) step.2)
step_stops known b new slot Take NoMemory step honest = stops_same known b slot new (ap (λ (x : SeenBook). x.stopped) step.1)
step_stops known b new slot (Claim p) (Claimed granted) step honest = stops_same known b slot new (ap (λ (x : SeenBook). x.stopped) step.is)
step_stops known b new slot (Split num den) (SplitAt (Some at)) step honest = stops_same known b slot new (ap (λ (x : SeenBook). x.stopped) step.0.is)
step_stops known b new slot (Split num den) (SplitAt None) step honest = stops_same known b slot new (ap (λ (x : SeenBook). x.stopped) step.1)
step_stops known b new slot (Split num den) NoMemory step honest = stops_same known b slot new (ap (λ (x : SeenBook). x.stopped) step)
step_stops known b new slot Commit Committed step honest = stops_same known b slot new (ap (λ (x : SeenBook). x.stopped) step.1.commit.is)
step_stops known b new slot Commit NoMemory step honest = stops_same known b slot new (ap (λ (x : SeenBook). x.stopped) step.1)
step_stops known b new slot (Fail at cause) answer step honest = λ note is.
    fail_stops_where known b slot at cause step.job step.works.works (honest step.job step.works.works) (is_broken b step.job cause) note (sym (ap (λ (x : SeenBook). x.stopped) step.is) ∙ is)
step_stops known b new slot Stop Noted step honest = λ note is. inl (none_by_memory b.stopped note (sym (ap (λ (x : SeenBook). x.stopped) step) ∙ is))
step_stops known b new slot _ _ step honest = absurd step

step_finds : (known : Surroundings) (b new : SeenBook) (made : MadeStep) → Step known.told b made.slot made.action made.answer new → IsHonestAction known b made.slot made.action
    → HonestlyReached known b → Finds known b → Finds known new
step_finds known b new made step honest reached finds note is = by (step_stops known b new made.slot made.action made.answer step honest note is)
  where
    same : new.plan ≡ b.plan
    same = (step_same known.told b new made.slot made.action made.answer step).plan

    by : (b.stopped ≡ Some (stop.Spent note)) ⊎ GivesNote known b made.slot note → FoundStop known new note
    by (inl before) =
        let found = finds note before in
        record {
          before = found.before;
          reached = found.reached;
          steps = found.steps ++ made ∷ [];
          onward = honest_run_more known found.steps found.before b new made found.onward step honest;
          plan = found.plan ∙ sym same;
          slot = found.slot;
          job = found.job;
          works = found.works;
          tells = found.tells;
          honest = found.honest;
        }
    by (inr gives) = record {
      before = b;
      reached = reached;
      steps = made ∷ [];
      onward = (new, step, honest, refl);
      plan = sym same;
      slot = made.slot;
      job = gives.job;
      works = gives.works;
      tells = gives.tells;
      honest = gives.honest;
    }

-- ---- all steps

run_finds : (known : Surroundings) (steps : List MadeStep) (b end : SeenBook) → HonestRun known b steps end → HonestlyReached known b → Finds known b → Finds known end
run_finds known [] b end run reached finds = subst (Finds known) (sym run) finds
run_finds known (made ∷ later) b end run reached finds =
    run_finds known later run.0 end run.3 (honest_more known b run.0 made run.1 run.2 reached)
    (step_finds known b run.0 made run.1 run.2 reached finds)

pub opening_reached : (known : Surroundings) (b first : SeenBook) → IsOpening b.plan b.files b.options first → HonestlyReached known first
opening_reached known b first opening = record {
  first = first;
  opening = opening_of first b first (subst (HasSamePlan b) (sym opening.is) (record { plan = refl; files = refl; options = refl })) opening;
  steps = [];
  run = refl;
}

pub honest_stop : (known : Surroundings) (b : SeenBook) (note : FaultNote) → IsStopNoted b b.stopped → HonestlyReached known b → b.stopped ≡ Some (stop.Spent note) → IsHonestStop known b note
honest_stop known b note noted reached is =
    let none : Finds known reached.first = λ other e. absurd (never other (sym (ap (λ (x : SeenBook). x.stopped) reached.opening.is) ∙ e)) in
    let found = run_finds known reached.steps reached.first b reached.run (opening_reached known b reached.first reached.opening) none note is in
    record {
      before = found.before;
      reached = found.reached;
      steps = found.steps;
      onward = found.onward;
      plan = found.plan;
      slot = found.slot;
      job = found.job;
      works = found.works;
      tells = found.tells;
      honest = found.honest;
      spent = noted_limit (subst (IsStopNoted b) is noted);
    }
  where
    never : (other : FaultNote) → None ≡ Some (stop.Spent other) → ⊥
    never other e = absurd (cc)

    noted_limit : IsStopNoted b (Some (stop.Spent note)) → note.attempt ≡ b.options.attempts
    noted_limit h = h.0
