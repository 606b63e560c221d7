-- What stores tell makes no difference to the run of a drill, since its lines are made: it is one over no files.
use Rattle.std.proofs.Common.{◌≡◌, inl, inr, ℕ, zero, suc, ◌+◌, Bool, true, List, [], ◌∷◌, map, Option, Some, None, refl, sym, ap, subst, ◌∙◌}
use Rattle.std.proofs.lemmas.Bool.{false≢true}
use Rattle.beam_values.specs.declared.fault.Cause.{Cause}
use Rattle.beam_values.specs.declared.fault.Cause.TheVariants.{Call, Read}
use Rattle.beam_values.specs.declared.file_text.FileText.{FileText}
use Rattle.beam_values.specs.declared.piece.FileLen.{FileLen}
use Rattle.beam_values.specs.declared.piece.Piece.{Piece}
use Rattle.beam_values.specs.declared.plan.Plan.{Plan}
use Rattle.beam_model.specs.Coverings.{item_at, spread_of}
use Rattle.beam_model.specs.Positions.{SourceItem, item_len, items}
use Rattle.beam_model.specs.Spread.{first_poison}
use Rattle.beam_ports.specs.Observed.{WhereTold}
use Rattle.bundle_commit.specs.declared.job.Job.{Job}
use Rattle.bundle_commit.specs.declared.job.Job.TheVariants as job
use Rattle.bundle_commit.specs.declared.job.Receipt.{Receipt}
use Rattle.book_core.specs.Book.{SeenBook}
use Rattle.book_core.specs.Jobs.{attempted_of, job_of}
use Rattle.book_core.specs.Runs.{AreLengthsOf, AreTold, HonestRun, HonestlyReached, IsHonestAction, MadeStep}
use Rattle.book_core.specs.Steps.{Action, Enroll, Take, Claim, Split, Commit, Fail, Stop, Answer, Enrolled, TakenJob, Nothing, Finished, Stopped, Claimed, SplitAt, Committed, Noted, NoMemory, Step}
use Rattle.book_core.specs.Work.{IsGiven, IsHonest, IsHonestCall, IsPoisonAttempt, IsWorkOnItem, IsWorkOnRange, Surroundings, is_known, items_told, worked_to}
use Rattle.book_core.proofs.Reaching.{step_same}
use Rattle.beam_command.specs.DrillPlans.{drill_plan}

-- so seen, no files are there
abbrev pub over_none : Surroundings → Surroundings
over_none known = record { told = Some []; strict = known.strict }

module _ (count number : ℕ) where
  abbrev plan : Plan
  plan = drill_plan count number

  -- ---- the one item is known whole, and it is the same

  known_whole : (told : Option (List FileText)) (node : ℕ) → is_known told plan node ≡ true
  known_whole (Some files) node = refl
  known_whole None zero = refl
  known_whole None (suc zero) = refl
  known_whole None (suc (suc zero)) = refl
  known_whole None (suc (suc (suc zero))) = refl
  known_whole None (suc (suc (suc (suc zero)))) = refl
  known_whole None (suc (suc (suc (suc (suc zero))))) = refl
  known_whole None (suc (suc (suc (suc (suc (suc node)))))) = refl

  items_same : (told : Option (List FileText)) → items_told told plan ≡ items_told (Some []) plan
  items_same None = refl
  items_same (Some files) = refl

  module _ (told : Option (List FileText)) where
    given_same : (it : Job) (attempted : Option ℕ) (receipt : Receipt) → IsGiven told plan it attempted receipt → IsGiven (Some []) plan it attempted receipt
    given_same (job.Span piece) attempted receipt given =
        let upto = worked_to piece attempted in
        let known = subst (λ (whole : Bool). IsWorkOnRange whole told plan piece upto receipt) (known_whole told piece.node) given.0 in
        (subst (λ (l : List SourceItem). IsWorkOnItem plan piece upto (item_at l piece.node piece.item) receipt) (items_same told) known, given.1, given.2)
    given_same (job.Batch node first panes attempts) attempted receipt given = given
    given_same (job.Key node cell key span inputs state timers attempts) attempted receipt given = given

    attempt_same : (piece : Piece) (attempted : Option ℕ) (at : ℕ) → IsPoisonAttempt told plan piece attempted at → IsPoisonAttempt (Some []) plan piece attempted at
    attempt_same piece None at attempt = attempt
    attempt_same piece (Some p) at attempt =
        (attempt.0, attempt.1, subst (λ (l : List SourceItem). first_poison (spread_of plan (record { from = p; to = p + 1 }) (item_at l piece.node piece.item)) ≡ Some at) (items_same told) attempt.2)

  module _ (known : Surroundings) where
    call_same : (it : Job) (attempted : Option ℕ) (at : ℕ) → IsHonestCall known plan it attempted at → IsHonestCall (over_none known) plan it attempted at
    call_same (job.Span piece) attempted at honest = elim honest [
      | inl unknown ↦ absurd (false≢true (sym unknown ∙ known_whole known.told piece.node))
      | inr attempt ↦ inr (attempt_same known.told piece attempted at attempt)
    ]
    call_same (job.Batch node first panes attempts) attempted at honest = honest
    call_same (job.Key node cell key span inputs state timers attempts) attempted at honest = honest

    honest_same : (it : Job) (attempted : Option ℕ) (at : ℕ) (cause : Cause) → IsHonest known plan it attempted at cause → IsHonest (over_none known) plan it attempted at cause
    honest_same it attempted at Call honest = elim honest [ inl loose ↦ inl loose | inr called ↦ inr (call_same it attempted at called) ]
    honest_same it attempted at Read honest = honest

    -- ---- steps and runs

    module _ (b : SeenBook) (of : b.plan ≡ plan) where
      given_of : (it : Job) (attempted : Option ℕ) (receipt : Receipt) → IsGiven known.told b.plan it attempted receipt → IsGiven (Some []) b.plan it attempted receipt
      given_of it attempted receipt given =
          subst (λ (p : Plan). IsGiven (Some []) p it attempted receipt) (sym of)
          (given_same known.told it attempted receipt (subst (λ (p : Plan). IsGiven known.told p it attempted receipt) of given))

      step_told : (new : SeenBook) (slot : ℕ) (action : Action) (answer : Answer) → Step known.told b slot action answer new → Step (Some []) b slot action answer new
      step_told new slot Enroll (Enrolled n) step = step
      step_told new slot Enroll NoMemory step = step
      step_told new slot Take (TakenJob it) step = step
      step_told new slot Take Nothing step = step
      step_told new slot Take Finished step = step
      step_told new slot Take Stopped step = step
      step_told new slot Take NoMemory step = step
      step_told new slot (Claim p) (Claimed granted) step = step
      step_told new slot (Split num den) (SplitAt (Some at)) step = step
      step_told new slot (Split num den) (SplitAt None) step = step
      step_told new slot (Split num den) NoMemory step = step
      step_told new slot Commit Committed step = (
        step.0,
        record {
          job = step.1.job;
          works = step.1.works;
          given = given_of (job_of b.panes step.1.job) (attempted_of step.1.job) step.0 step.1.given;
          commit = step.1.commit;
        },
        step.2,
      )
      step_told new slot Commit NoMemory step =
          let can = step.0.1 in
          ((step.0.0, record { job = can.job; works = can.works; given = given_of (job_of b.panes can.job) (attempted_of can.job) step.0.0 can.given }), step.1)
      step_told new slot (Fail at cause) answer step = step
      step_told new slot Stop Noted step = step
      step_told new slot _ _ step = absurd step

      action_told : (slot : ℕ) (action : Action) → IsHonestAction known b slot action → IsHonestAction (over_none known) b slot action
      action_told slot (Fail at cause) honest = λ job works.
          subst (λ (p : Plan). IsHonest (over_none known) p (job_of b.panes job) (attempted_of job) at cause) (sym of)
          (honest_same (job_of b.panes job) (attempted_of job) at cause (subst (λ (p : Plan). IsHonest known p (job_of b.panes job) (attempted_of job) at cause) of (honest job works)))
      action_told slot Enroll honest = tt
      action_told slot Take honest = tt
      action_told slot (Claim p) honest = tt
      action_told slot (Split num den) honest = tt
      action_told slot Commit honest = tt
      action_told slot Stop honest = tt

    run_told : (steps : List MadeStep) (b end : SeenBook) → b.plan ≡ plan → HonestRun known b steps end → HonestRun (over_none known) b steps end
    run_told [] b end of run = run
    run_told (made ∷ later) b end of run =
        let same = step_same known.told b run.0 made.slot made.action made.answer run.1 in (
          run.0,
          step_told b of run.0 made.slot made.action made.answer run.1,
          action_told b of made.slot made.action run.2,
          run_told later run.0 end (same.plan ∙ of) run.3,
        )

    -- so each book that a drill reaches is one that it reaches over no files
    pub drill_reached : (b : SeenBook) → b.plan ≡ plan → HonestlyReached known b → HonestlyReached (over_none known) b
    drill_reached b of reached = record {
      first = reached.first;
      opening = reached.opening;
      steps = reached.steps;
      run = run_told reached.steps reached.first b (ap (λ (x : SeenBook). x.plan) reached.opening.is ∙ of) reached.run;
    }

  -- ---- the length of its item

  lengths_of : (files : List FileLen) → AreLengthsOf (items [] plan) files → files ≡ map item_len (items [] plan)
  lengths_of [] are = absurd are
  lengths_of (file ∷ []) are = λ i. record { node = are.0.0 i; item = are.0.1 i; len = are.0.2 refl i } ∷ []
  lengths_of (file ∷ (other ∷ files)) are = absurd are.1

  pub drill_lengths : (known : Surroundings) (b : SeenBook) → b.plan ≡ plan → HonestlyReached known b → WhereTold (Some []) (λ told. AreTold told b)
  drill_lengths known b of reached = λ told tells.
      let same : [] ≡ told = cc in
      let own = lengths_of b.files (subst (λ (p : Plan). AreLengthsOf (items [] p) b.files) of reached.opening.lengths) in
      subst (λ (files : List FileText). AreTold files b) same (own ∙ ap (λ (p : Plan). map item_len (items [] p)) (sym of))
