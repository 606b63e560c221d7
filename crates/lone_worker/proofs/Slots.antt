-- One slot of a book is set, and the others are free.
use Rattle.std.proofs.Common.{◌≡◌, ℕ, zero, suc, List, [], ◌∷◌, length, refl, sym, ap, subst, ◌∙◌}
use Rattle.std.specs.Prelude.{Option, Some, None, slice_get, slice_set}
use Rattle.std.specs.List.{All}
use Rattle.std.proofs.lemmas.List.{length-set}
use Rattle.std.proofs.lemmas.Option.{slice_get_within}
use Rattle.book_core.specs.Book.{SeenBook}
use Rattle.book_core.specs.Steps.{IsFree, IsIdle, IsWorking}
use Rattle.book_core.specs.declared.live.Live.{Live}
use Rattle.book_core.proofs.CommitCalls.{set_back}
use Rattle.book_core.proofs.HeldMarks.{slice_get-set_same}
use Rattle.lone_worker.specs.Alone.{IsIdleBut}

-- the later value stays
pub set_twice : {X : Type 0} (xs : List X) (i : ℕ) (x y : X) → slice_set (slice_set xs i x) i y ≡ slice_set xs i y
set_twice [] i x y = refl
set_twice (z ∷ zs) zero x y = refl
set_twice (z ∷ zs) (suc i) x y = ap (λ (l : List _). z ∷ l) (set_twice zs i x y)

-- as many slots are left
pub same_slots : (b new : SeenBook) (slot : ℕ) (job : Option Live) → new.slots ≡ slice_set b.slots slot job → length new.slots ≡ length b.slots
same_slots b new slot job set = ap length set ∙ length-set b.slots slot job

-- a slot of an idle book takes a job
pub taken_but : (b new : SeenBook) (slot : ℕ) (job : Live) → IsFree b slot → IsIdle b → new.slots ≡ slice_set b.slots slot (Some job) → IsIdleBut new slot
taken_but b new slot job free idle set =
    subst (All (λ (other : Option Live). other ≡ None)) (sym (ap (λ (slots : List (Option Live)). slice_set slots slot None) set ∙ set_back b.slots slot None (Some job) free)) idle

-- it goes on with it
pub still_but : (b new : SeenBook) (slot : ℕ) (job : Live) → new.slots ≡ slice_set b.slots slot (Some job) → IsIdleBut b slot → IsIdleBut new slot
still_but b new slot job set others =
    subst (All (λ (other : Option Live). other ≡ None)) (sym (ap (λ (slots : List (Option Live)). slice_set slots slot None) set ∙ set_twice b.slots slot (Some job) None)) others

-- and is done with it
pub freed : (b new : SeenBook) (slot : ℕ) (job : Live) → IsWorking b slot job → new.slots ≡ slice_set b.slots slot None → IsIdleBut b slot → IsFree new slot × IsIdle new
freed b new slot job works set others = (
  ap (λ (slots : List (Option Live)). slice_get slots slot) set ∙ slice_get-set_same b.slots slot None (slice_get_within b.slots slot (Some job) works),
  subst (All (λ (other : Option Live). other ≡ None)) (sym set) others,
)
