-- What is left of a sane book, step by step: takes and claims don't raise it, commits of jobs that go on and fails lower it, and the rounds that are left with it.
use Rattle.std.proofs.Common.{◌≡◌, ◌⊎◌, inl, inr, ℕ, ◌<◌, ◌≤◌, List, [], ◌∷◌, ◌++◌, length, map, refl, sym, ap, subst, ◌∙◌, arith}
use Rattle.std.specs.Prelude.{Bool, Option, Some, None, ◌==◌}
use Rattle.beam_values.specs.Lines.{offsets}
use Rattle.beam_values.specs.declared.fault.Cause.{Cause}
use Rattle.beam_values.specs.declared.file_text.FileText.{FileText}
use Rattle.beam_values.specs.declared.piece.Piece.{Piece}
use Rattle.beam_values.proofs.Bags.{bag_count}
use Rattle.bundle_commit.specs.declared.job.Job.{Job}
use Rattle.book_core.specs.Book.{SeenBook, HeldPane, AreMarksOfBook, batch_of, held}
use Rattle.book_core.specs.Changes.{is_broken, with_slot}
use Rattle.book_core.specs.Left.{BreaksNoEmpty, GoesOnAt, IsBelow, attempts_left, left, left_at, left_of_batch, left_of_piece, rounds_left}
use Rattle.book_core.specs.Sane.{IsSane}
use Rattle.book_core.specs.Steps.{Action, Answer, Claim, Claimed, Commit, Committed, Fail, IsClaiming, IsFailing, IsTaking, IsWithinLimits, IsWorking, Step, Take, TakenJob}
use Rattle.book_core.specs.declared.live.Live.TheVariants as live
use Rattle.book_core.proofs.BreakLowers.{fail_lowers}
use Rattle.book_core.proofs.Cases.{Commits}
use Rattle.book_core.proofs.CommitLowers.{commit_lowers}
use Rattle.book_core.proofs.HeldMoves.{set_moves}
use Rattle.book_core.proofs.HoldBags.{piece_set_weighs}
use Rattle.book_core.proofs.Lowered.{at_node, attempts_weigh, left_at_weighs}
use Rattle.book_core.proofs.Reaching.{step_same}
use Rattle.book_core.proofs.Rounds.{fewer_rounds, same_rounds}
use Rattle.book_core.proofs.SaneAlways.{step_sane}
use Rattle.book_core.proofs.Slotted.{flat_set_weighs}
use Rattle.book_core.proofs.TakenLeft.{take_no_higher}

-- ---- a claim

attempt_left : (b : SeenBook) (slot : ℕ) (piece : Piece) (attempted later : Option ℕ) → IsWorking b slot (live.Span piece attempted) → left (with_slot b slot (Some (live.Span piece later))) ≡ left b
attempt_left b slot piece attempted later works = λ i. map (λ m. nodes m i) (offsets 0 (length b.plan.nodes)) ++ attempts i ∷ []
  where
    nodes : (m : ℕ) → left_at (with_slot b slot (Some (live.Span piece later))) m ≡ left_at b m
    nodes m =
        let new = with_slot b slot (Some (live.Span piece later)) in
        omega (
          arith,
          left_at_weighs b m,
          left_at_weighs new m,
          piece_set_weighs (at_node m) b slot (Some (live.Span piece attempted)) (Some (live.Span piece later)) works,
          bag_count (λ (pane : HeldPane). pane.node == m) (held new) (held b) (set_moves b slot (Some (live.Span piece attempted)) (Some (live.Span piece later)) works refl refl),
        )

    attempts : attempts_left (with_slot b slot (Some (live.Span piece later))) ≡ attempts_left b
    attempts =
        let most = b.options.attempts in
        omega (
          arith,
          attempts_weigh b,
          attempts_weigh (with_slot b slot (Some (live.Span piece later))),
          piece_set_weighs (left_of_piece most) b slot (Some (live.Span piece attempted)) (Some (live.Span piece later)) works,
          flat_set_weighs batch_of b.slots slot (left_of_batch most) (Some (live.Span piece attempted)) (Some (live.Span piece later)) works,
        )

pub claim_leaves : (b new : SeenBook) (slot p : ℕ) (granted : Bool) → IsClaiming b slot p granted new → left new ≡ left b
claim_leaves b new slot p granted step = ap left step.is ∙ attempt_left b slot step.piece step.attempted (Some p) step.works.works

-- ---- a take and a fail

pub take_leaves : (b new : SeenBook) (slot : ℕ) (job : Job) → IsSane b → IsTaking b slot job new → IsBelow (left new) (left b) ⊎ (left new ≡ left b)
take_leaves b new slot job sane step =
    subst (λ (x : SeenBook). IsBelow (left x) (left b) ⊎ (left x ≡ left b)) (sym step.is) (take_no_higher b slot sane.formed sane.held step.free step.next step.is_next)

pub fail_leaves : (b new : SeenBook) (slot at : ℕ) (cause : Cause) (answer : Answer) → IsSane b → BreaksNoEmpty b slot cause → IsFailing b slot at cause answer new → IsBelow (left new) (left b)
fail_leaves b new slot at cause answer sane some step =
    subst (λ (x : SeenBook). IsBelow (left x) (left b)) (sym step.is)
    (fail_lowers b slot at step.job cause (is_broken b step.job cause) refl sane step.works.works step.works.fresh (some step.job step.works.works))

-- ---- a commit

pub commit_leaves : (told : Option (List FileText)) (b new : SeenBook) (slot : ℕ) → IsSane b → Step told b slot Commit Committed new → GoesOnAt b slot → IsBelow (left new) (left b)
commit_leaves told b new slot sane step goes =
    let is = step.1 in
    let commit = is.commit in
    let made : Commits told b slot is.job step.0 commit.cells commit.fired commit.marks = record {
      works = is.works;
      given = is.given;
      marked = subst (λ (x : SeenBook). AreMarksOfBook x commit.marks) commit.is commit.marked;
      rounds = commit.rounds;
      within = subst IsWithinLimits commit.is step.2;
    } in
    subst (λ (x : SeenBook). IsBelow (left x) (left b)) (sym commit.is)
    (commit_lowers told b slot is.job step.0 commit.cells commit.fired commit.marks sane made (goes is.job is.works))

-- ---- rounds

-- whatever positions of its range a job has attempted
pub attempt_rounds : (b : SeenBook) (slot : ℕ) (piece : Piece) (attempted later : Option ℕ) → IsWorking b slot (live.Span piece attempted)
    → rounds_left (with_slot b slot (Some (live.Span piece later))) ≡ rounds_left b
attempt_rounds b slot piece attempted later works =
    same_rounds b (with_slot b slot (Some (live.Span piece later))) (record { plan = refl; files = refl; options = refl }) (attempt_left b slot piece attempted later works)

fewer : (told : Option (List FileText)) (b new : SeenBook) (slot : ℕ) (action : Action) (answer : Answer) → IsSane b → Step told b slot action answer new → IsBelow (left new) (left b)
    → rounds_left new < rounds_left b
fewer told b new slot action answer sane step below =
    fewer_rounds b new (step_same told b new slot action answer step) (step_sane told b new slot action answer step sane) below

pub take_rounds : (b new : SeenBook) (slot : ℕ) (job : Job) → IsSane b → IsTaking b slot job new → rounds_left new ≤ rounds_left b
take_rounds b new slot job sane step = elim (take_leaves b new slot job sane step) [
  | inl below ↦ let less = fewer None b new slot Take (TakenJob job) sane step below in omega (arith, less)
  | inr same ↦ let is = same_rounds b new (step_same None b new slot Take (TakenJob job) step) same in omega (arith, is)
]

pub claim_rounds : (b new : SeenBook) (slot p : ℕ) (granted : Bool) → IsClaiming b slot p granted new → rounds_left new ≡ rounds_left b
claim_rounds b new slot p granted step = same_rounds b new (step_same None b new slot (Claim p) (Claimed granted) step) (claim_leaves b new slot p granted step)

pub commit_rounds : (told : Option (List FileText)) (b new : SeenBook) (slot : ℕ) → IsSane b → Step told b slot Commit Committed new → GoesOnAt b slot → rounds_left new < rounds_left b
commit_rounds told b new slot sane step goes = fewer told b new slot Commit Committed sane step (commit_leaves told b new slot sane step goes)

pub fail_rounds : (b new : SeenBook) (slot at : ℕ) (cause : Cause) (answer : Answer) → IsSane b → BreaksNoEmpty b slot cause → IsFailing b slot at cause answer new → rounds_left new < rounds_left b
fail_rounds b new slot at cause answer sane some step = fewer None b new slot (Fail at cause) answer sane step (fail_leaves b new slot at cause answer sane some step)
