-- Runs look at the told files through the source items of their plan only.
use Rattle.std.proofs.Common.{◌≡◌, inl, inr, ℕ, ◌+◌, Bool, true, false, List, [], ◌∷◌, refl, sym, subst, ap, ◌∙◌}
use Rattle.std.specs.Prelude.{Option, Some, None}
use Rattle.std.proofs.lemmas.Bool.{false≢true}
use Rattle.beam_values.specs.declared.fault.Cause.{Cause}
use Rattle.beam_values.specs.declared.fault.Cause.TheVariants.{Call, Read}
use Rattle.beam_values.specs.declared.file_text.FileText.{FileText}
use Rattle.beam_values.specs.declared.piece.Piece.{Piece}
use Rattle.beam_values.specs.declared.plan.Plan.{Plan}
use Rattle.beam_model.specs.Coverings.{item_at, spread_of}
use Rattle.beam_model.specs.Positions.{SourceItem, items}
use Rattle.beam_model.specs.Spread.{first_poison}
use Rattle.bundle_commit.specs.declared.job.Job.{Job}
use Rattle.bundle_commit.specs.declared.job.Job.TheVariants as job
use Rattle.bundle_commit.specs.declared.job.Receipt.{Receipt}
use Rattle.book_core.specs.Book.{SeenBook}
use Rattle.book_core.specs.Jobs.{attempted_of, job_of}
use Rattle.book_core.specs.Runs.{HonestRun, HonestlyReached, IsHonestAction, MadeStep}
use Rattle.book_core.specs.Steps.{Action, Enroll, Take, Claim, Split, Commit, Fail, Stop, Answer, Enrolled, TakenJob, Nothing, Finished, Stopped, Claimed, SplitAt, Committed, Noted, NoMemory, Step}
use Rattle.book_core.specs.Work.{IsGiven, IsHonest, IsHonestCall, IsPoisonAttempt, IsWorkOnItem, Surroundings, is_known, worked_to}
use Rattle.book_core.proofs.Reaching.{step_same}

module _ (told files : List FileText) (plan : Plan) (same : items told plan ≡ items files plan) where
  given_same : (work : Job) (attempted : Option ℕ) (receipt : Receipt) → IsGiven (Some told) plan work attempted receipt → IsGiven (Some files) plan work attempted receipt
  given_same (job.Span piece) attempted receipt given = (
    subst (λ (all : List SourceItem). IsWorkOnItem plan piece (worked_to piece attempted) (item_at all piece.node piece.item) receipt) same given.0,
    given.1,
    given.2,
  )
  given_same (job.Batch node first panes attempts) attempted receipt given = given
  given_same (job.Key node cell key span inputs state timers attempts) attempted receipt given = given

  attempt_same : (piece : Piece) (attempted : Option ℕ) (at : ℕ) → IsPoisonAttempt (Some told) plan piece attempted at → IsPoisonAttempt (Some files) plan piece attempted at
  attempt_same piece None at attempt = attempt
  attempt_same piece (Some p) at attempt = (
    attempt.0,
    attempt.1,
    subst (λ (all : List SourceItem). first_poison (spread_of plan (record { from = p; to = p + 1 }) (item_at all piece.node piece.item)) ≡ Some at) same attempt.2,
  )

-- ---- one step

step_of_items : (told files : List FileText) (b new : SeenBook) (slot : ℕ) (action : Action) (answer : Answer) → items told b.plan ≡ items files b.plan
    → Step (Some told) b slot action answer new → Step (Some files) b slot action answer new
step_of_items told files b new slot Enroll (Enrolled number) same step = step
step_of_items told files b new slot Enroll NoMemory same step = step
step_of_items told files b new slot Take (TakenJob work) same step = step
step_of_items told files b new slot Take Nothing same step = step
step_of_items told files b new slot Take Finished same step = step
step_of_items told files b new slot Take Stopped same step = step
step_of_items told files b new slot Take NoMemory same step = step
step_of_items told files b new slot (Claim p) (Claimed granted) same step = step
step_of_items told files b new slot (Split num den) (SplitAt (Some at)) same step = step
step_of_items told files b new slot (Split num den) (SplitAt None) same step = step
step_of_items told files b new slot (Split num den) NoMemory same step = step
step_of_items told files b new slot Commit Committed same step =
    let made = step.1 in (
      step.0,
      record {
        job = made.job;
        works = made.works;
        given = given_same told files b.plan same (job_of b.panes made.job) (attempted_of made.job) step.0 made.given;
        commit = made.commit;
      },
      step.2,
    )
step_of_items told files b new slot Commit NoMemory same step =
    let can = step.0.1 in (
      (
        step.0.0,
        record { job = can.job; works = can.works; given = given_same told files b.plan same (job_of b.panes can.job) (attempted_of can.job) step.0.0 can.given },
      ),
      step.1,
    )
step_of_items told files b new slot (Fail at cause) answer same step = step
step_of_items told files b new slot Stop Noted same step = step
step_of_items told files b new slot _ _ same step = absurd step

-- ---- a fail that was honest

module _ (known other : Surroundings) (told files : List FileText) (tells : known.told ≡ Some told) (others : other.told ≡ Some files) (weaker : other.strict ≡ true → known.strict ≡ true) where
  loose_too : known.strict ≡ false → other.strict ≡ false
  loose_too loose = by other.strict refl
    where
      by : (s : Bool) → other.strict ≡ s → other.strict ≡ false
      by false is = is
      by true is = absurd (false≢true (sym loose ∙ weaker is))

  call_same : (plan : Plan) (work : Job) (attempted : Option ℕ) (at : ℕ) → items told plan ≡ items files plan → IsHonestCall known plan work attempted at → IsHonestCall other plan work attempted at
  call_same plan (job.Span piece) attempted at same honest = elim honest [
    | inl unknown ↦ absurd (false≢true (sym (subst (λ (t : Option (List FileText)). is_known t plan piece.node ≡ false) tells unknown)))
    | inr attempt ↦ inr
        (subst (λ (t : Option (List FileText)). IsPoisonAttempt t plan piece attempted at) (sym others)
        (attempt_same told files plan same piece attempted at (subst (λ (t : Option (List FileText)). IsPoisonAttempt t plan piece attempted at) tells attempt)))
  ]
  call_same plan (job.Batch node first panes attempts) attempted at same honest = honest
  call_same plan (job.Key node cell key span inputs state timers attempts) attempted at same honest = honest

  honest_same : (plan : Plan) (work : Job) (attempted : Option ℕ) (at : ℕ) (cause : Cause) → items told plan ≡ items files plan → IsHonest known plan work attempted at cause
      → IsHonest other plan work attempted at cause
  honest_same plan work attempted at Call same honest = elim honest [
    | inl loose ↦ inl (loose_too loose)
    | inr called ↦ inr (call_same plan work attempted at same called)
  ]
  honest_same plan work attempted at Read same honest = honest

  action_same : (b : SeenBook) (slot : ℕ) (action : Action) → items told b.plan ≡ items files b.plan → IsHonestAction known b slot action → IsHonestAction other b slot action
  action_same b slot (Fail at cause) same honest = λ work works. honest_same b.plan (job_of b.panes work) (attempted_of work) at cause same (honest work works)
  action_same b slot Enroll same honest = honest
  action_same b slot Take same honest = honest
  action_same b slot (Claim p) same honest = honest
  action_same b slot (Split num den) same honest = honest
  action_same b slot Commit same honest = honest
  action_same b slot Stop same honest = honest

  -- ---- all steps

  pub run_of_items : (steps : List MadeStep) (b c : SeenBook) → items told b.plan ≡ items files b.plan → HonestRun known b steps c → HonestRun other b steps c
  run_of_items [] b c same run = run
  run_of_items (made ∷ later) b c same run =
      let plan = (step_same known.told b run.0 made.slot made.action made.answer run.1).plan in (
        run.0,
        subst (λ (t : Option (List FileText)). Step t b made.slot made.action made.answer run.0) (sym others)
            (step_of_items told files b run.0 made.slot made.action made.answer same (subst (λ (t : Option (List FileText)). Step t b made.slot made.action made.answer run.0) tells run.1)),
        action_same b made.slot made.action same run.2,
        run_of_items later run.0 c (subst (λ (p : Plan). items told p ≡ items files p) (sym plan) same) run.3,
      )

  pub reached_of_items : (b : SeenBook) → items told b.plan ≡ items files b.plan → HonestlyReached known b → HonestlyReached other b
  reached_of_items b same reached = record {
    first = reached.first;
    opening = reached.opening;
    steps = reached.steps;
    run = run_of_items reached.steps reached.first b
        (subst (λ (p : Plan). items told p ≡ items files p) (sym (ap (λ (x : SeenBook). x.plan) reached.opening.is)) same) reached.run;
  }
