-- A step of one slot leads from where a replay stands to where it stands then.
use Rattle.std.proofs.Common.{◌≡◌, ℕ, ◌<◌, Bool, zero, suc, List, [], ◌∷◌, ◌++◌, length, refl, sym, ap, ◌∙◌, subst, arith}
use Rattle.std.specs.Prelude.{Option, Some, None, slice_get, slice_set}
use Rattle.std.proofs.lemmas.List.{append-nil, length-set}
use Rattle.beam_values.specs.declared.cell.Pane.{Pane}
use Rattle.beam_values.specs.declared.fault.Cause.{Cause}
use Rattle.beam_values.specs.declared.file_text.FileText.{FileText}
use Rattle.bundle_commit.specs.declared.job.Job.{Job}
use Rattle.bundle_commit.specs.declared.job.Receipt.{Receipt}
use Rattle.book_core.specs.Book.{SeenBook, slot_at}
use Rattle.book_core.specs.Facts.{AreHeldOnce}
use Rattle.book_core.specs.Steps.{Action, Answer, IsClaiming, IsCommitting, IsFailing, IsTaking, Step}
use Rattle.book_core.specs.declared.live.Live.{Live}
use Rattle.book_core.specs.declared.live.Live.TheVariants as live
use Rattle.book_core.proofs.HeldMarks.{slice_get-set_same}
use Rattle.book_core.proofs.Reaching.{step_same}
use Rattle.known_jobs.specs.Jobs.{known_at, known_in}
use Rattle.known_jobs.specs.Kept.{fail_leaves, next_keep}
use Rattle.lone_worker.specs.Alone.{IsBookIn}
use Rattle.lone_worker.specs.Work.{Base}
use Rattle.lone_worker.specs.declared.work.Work.{Work}
use Rattle.lone_worker.proofs.Leading.{in_same}
use Rattle.schedule_replay.specs.Standing.{IsSlotAt, IsStanding}
use Rattle.schedule_replay.specs.declared.stand.Stand.{Stand as Stood}
use Rattle.schedule_replay.proofs.Slotted.{each_set, known_more}

-- ---- what a step sets

-- it sets what one slot works, and panes are behind those that there were
pub record Sets (b : SeenBook) (slot : ℕ) (worked : Option Live) (new : SeenBook) : Type 0 where
  pub slots : new.slots ≡ slice_set b.slots slot worked
  pub more : List Pane
  pub panes : new.panes ≡ b.panes ++ more

none_more : (xs ys : List Pane) → ys ≡ xs → ys ≡ xs ++ []
none_more xs ys same = same ∙ sym (append-nil xs)

pub taking_sets : (b new : SeenBook) (slot : ℕ) (job : Job) (step : IsTaking b slot job new) → Sets b slot (Some step.next.job) new
taking_sets b new slot job step =
    let keeps = next_keep b step.next step.is_next in
    record {
      slots = ap (λ (x : SeenBook). x.slots) step.is ∙ ap (λ (slots : List (Option Live)). slice_set slots slot (Some step.next.job)) keeps.slots;
      more = [];
      panes = none_more b.panes new.panes (ap (λ (x : SeenBook). x.panes) step.is ∙ keeps.panes);
    }

pub claiming_sets : (b new : SeenBook) (slot p : ℕ) (granted : Bool) (step : IsClaiming b slot p granted new) → Sets b slot (Some (live.Span step.piece (Some p))) new
claiming_sets b new slot p granted step =
    record { slots = ap (λ (x : SeenBook). x.slots) step.is; more = []; panes = none_more b.panes new.panes (ap (λ (x : SeenBook). x.panes) step.is) }

pub committing_sets : (told : Option (List FileText)) (b new : SeenBook) (slot : ℕ) (receipt : Receipt) → IsCommitting told b slot receipt new → Sets b slot None new
committing_sets told b new slot receipt step =
    record { slots = ap (λ (x : SeenBook). x.slots) step.commit.is; more = step.commit.fired; panes = ap (λ (x : SeenBook). x.panes) step.commit.is }

pub failing_sets : (b new : SeenBook) (slot at : ℕ) (cause : Cause) (answer : Answer) → IsFailing b slot at cause answer new → Sets b slot None new
failing_sets b new slot at cause answer step =
    let leaves = fail_leaves b slot at step.job cause in
    record {
      slots = ap (λ (x : SeenBook). x.slots) step.is ∙ leaves.slots;
      more = [];
      panes = none_more b.panes new.panes (ap (λ (x : SeenBook). x.panes) step.is ∙ leaves.panes);
    }

-- the slot works that then
pub set_at : (b new : SeenBook) (slot : ℕ) (worked : Option Live) → Sets b slot worked new → slot < length b.slots → slot_at new slot ≡ Some worked
set_at b new slot worked sets inside = ap (λ (slots : List (Option Live)). slice_get slots slot) sets.slots ∙ slice_get-set_same b.slots slot worked inside

-- and a free one works nothing
pub set_none : (b new : SeenBook) (slot : ℕ) → Sets b slot None new → slot < length b.slots → known_at new slot ≡ None
set_none b new slot sets inside = ap (known_in new.panes) (set_at b new slot None sets inside)

-- ---- where the replay stands then

module _ (base : Base) (old : Stood) (new : SeenBook) (later : Stood) (slot : ℕ) (work : Option Work) (standing : IsStanding base old) (inside : slot < length old.works.items) where
  stands_by : IsBookIn base.setting new → length new.slots ≡ length old.book.slots → ((other : ℕ) → (other ≡ slot → ⊥) → known_at new other ≡ known_at old.book other) → IsSlotAt base (known_at new slot) (Some work)
      → later.book ≡ new → later.works.items ≡ slice_set old.works.items slot work → IsStanding base later
  stands_by within slots others own book works =
      let each = each_set base old.book new old.works.items slot work standing.each inside others own in
      let count : length (slice_set old.works.items slot work) ≡ length new.slots = omega (arith, standing.count, length-set old.works.items slot work, slots) in
      record {
        inside = subst (IsBookIn base.setting) (sym book) within;
        count = ap length works ∙ count ∙ sym (ap (λ (x : SeenBook). length x.slots) book);
        some = omega (arith, standing.some, ap length works, length-set old.works.items slot work);
        each = λ at.
            subst (λ (x : SeenBook). IsSlotAt base (known_at x at) (slice_get later.works.items at)) (sym book)
            (subst (λ (l : List (Option Work)). IsSlotAt base (known_at new at) (slice_get l at)) (sym works) (each at));
      }

  -- after a step
  pub stands_then : (worked : Option Live) (told : Option (List FileText)) (action : Action) (answer : Answer) → AreHeldOnce old.book → Step told old.book slot action answer new → Sets old.book slot worked new
      → IsSlotAt base (known_at new slot) (Some work) → later.book ≡ new → later.works.items ≡ slice_set old.works.items slot work → IsStanding base later
  stands_then worked told action answer held step sets own book works =
      let b = old.book in
      let same = in_same base.setting b new (step_same told b new slot action answer step) standing.inside in
      stands_by same (ap length sets.slots ∙ length-set b.slots slot worked) (λ other apart. known_more b new slot other worked sets.more held sets.slots sets.panes apart) own book works

  -- the book is the same
  pub stands_same : new ≡ old.book → IsSlotAt base (known_at old.book slot) (Some work) → later.book ≡ new → later.works.items ≡ slice_set old.works.items slot work → IsStanding base later
  stands_same same own book works =
      stands_by (subst (IsBookIn base.setting) (sym same) standing.inside) (ap (λ (x : SeenBook). length x.slots) same) (λ other apart. ap (λ (x : SeenBook). known_at x other) same)
      (subst (λ (x : SeenBook). IsSlotAt base (known_at x slot) (Some work)) (sym same) own) book works

-- and so is all else
pub stands_still : (base : Base) (old later : Stood) → IsStanding base old → later.book ≡ old.book → later.works.items ≡ old.works.items → IsStanding base later
stands_still base old later standing book works = record {
  inside = subst (IsBookIn base.setting) (sym book) standing.inside;
  count = ap length works ∙ standing.count ∙ sym (ap (λ (x : SeenBook). length x.slots) book);
  some = omega (arith, standing.some, ap length works);
  each = λ at.
      subst (λ (x : SeenBook). IsSlotAt base (known_at x at) (slice_get later.works.items at)) (sym book)
      (subst (λ (l : List (Option Work)). IsSlotAt base (known_at old.book at) (slice_get l at)) (sym works) (standing.each at));
}

set_same : {X : Type 0} (xs : List X) (i : ℕ) (x : X) → slice_get xs i ≡ Some x → slice_set xs i x ≡ xs
set_same [] i x at = refl
set_same {X = X} (y ∷ ys) zero x at = let one : y ≡ x = cc in ap (λ (z : X). z ∷ ys) (sym one)
set_same {X = X} (y ∷ ys) (suc i) x at = ap (λ (l : List X). y ∷ l) (set_same ys i x at)

-- what is noted of a free slot is noted again
pub none_set : (works : List (Option Work)) (slot : ℕ) → slice_get works slot ≡ Some None → works ≡ slice_set works slot None
none_set works slot at = sym (set_same works slot None at)
