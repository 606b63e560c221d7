-- Whether a run is finished, by its first slot and what that takes.
use Rattle.std.proofs.Common.{◌≡◌, ℕ, zero, suc, Bool, true, false, List, [], ◌∷◌, get_or, refl, sym, subst, ◌∙◌}
use Rattle.std.specs.Prelude.{Option, Some, None, Result, Ok, IfOk, slice_get}
use Rattle.std.specs.List.{All}
use Rattle.std.proofs.lemmas.List.Elements.{All-head, All-tail}
use Rattle.std.proofs.lemmas.Option.{slice_get-get_or}
use Rattle.book_core.specs.Book.{SeenBook}
use Rattle.book_core.specs.Calls.{Makes, answer_of}
use Rattle.book_core.specs.Steps.{Finished, IsFree, Take}
use Rattle.book_core.specs.declared.live.Live.{Live}
use Rattle.book_core.specs.declared.live.Taken.{Taken}
use Rattle.book_core.specs.declared.live.Taken.TheVariants as taken
use Rattle.lone_worker.specs.Work.{Base}
use Rattle.lone_worker.specs.declared.work.Work.{Work}
use Rattle.schedule_replay.specs.Replays.{IsFinished}
use Rattle.schedule_replay.specs.Shown.{shown_work}
use Rattle.schedule_replay.specs.Standing.{IsStanding}
use Rattle.schedule_replay.specs.Stands.{may_take}
use Rattle.schedule_replay.specs.declared.stand.Stand.{Stand as Stood}
use Rattle.schedule_replay.proofs.Ended.{works_at}
use Rattle.schedule_replay.proofs.Noted.{slot_free}

-- ---- what a take says

-- nothing is left, and the book stays as it is
pub finished_by : (b new : SeenBook) (slot : ℕ) (what : Taken) → what ≡ taken.Finished → Makes b slot Take (answer_of what) new → IsFinished b × (new ≡ b)
finished_by b new slot what is makes =
    let left : Makes b slot Take Finished new = subst (λ (t : Taken). Makes b slot Take (answer_of t) new) is makes in
    let step = left None in
    ((step.0, step.2, step.3), step.4)

-- there is something, others work, or the book is stopped
pub unfinished_by : (b new : SeenBook) (slot : ℕ) (what : Taken) → (what ≡ taken.Finished → ⊥) → Makes b slot Take (answer_of what) new → IsFinished b → ⊥
unfinished_by b new slot (taken.Job whole) other makes finished = let step = makes None in let never = sym step.is_next ∙ finished.1 in absurd (cc)
unfinished_by b new slot taken.Nothing other makes finished = (makes None).3 finished.2
unfinished_by b new slot taken.Finished other makes finished = other refl
unfinished_by b new slot taken.Stopped other makes finished = (makes None).0 finished.0

-- what is answered then
pub ok_by : {E : Type 0} (P : Bool → Type 0) (r : Result Bool E) (v : Bool) → r ≡ Ok v → P v → IfOk r P
ok_by {E} P r v is p = subst (λ (x : Result Bool E). IfOk x P) (sym is) p

-- ---- what is noted of the first slot

idle_at : (slots : List (Option Live)) (slot : ℕ) (worked : Option Live) → All (λ s. s ≡ None) slots → slice_get slots slot ≡ Some worked → worked ≡ None
idle_at [] slot worked idle at = absurd (cc)
idle_at (s ∷ slots) zero worked idle at = let same : s ≡ worked = cc in sym same ∙ All-head (λ (x : Option Live). x ≡ None) s slots idle
idle_at (s ∷ slots) (suc slot) worked idle at = idle_at slots slot worked (All-tail (λ (x : Option Live). x ≡ None) s slots idle) at

module _ (base : Base) (stood : Stood) (standing : IsStanding base stood) where
  -- it works nothing
  pub first_free : may_take (shown_work (slice_get stood.works.items 0)) ≡ true → IsFree stood.book 0
  first_free may = slot_free base stood standing 0 (by (slice_get stood.works.items 0) refl may)
    where
      by : (at : Option (Option Work)) → slice_get stood.works.items 0 ≡ at → may_take (shown_work at) ≡ true → slice_get stood.works.items 0 ≡ Some None
      by None at may = absurd (cc)
      by (Some None) at may = at
      by (Some (Some work)) at may = absurd (cc)

  -- it works something
  pub unfinished_at : may_take (shown_work (slice_get stood.works.items 0)) ≡ false → IsFinished stood.book → ⊥
  unfinished_at busy finished = by (slice_get stood.works.items 0) refl busy
    where
      by : (at : Option (Option Work)) → slice_get stood.works.items 0 ≡ at → may_take (shown_work at) ≡ false → ⊥
      by None at busy =
          let some : slice_get stood.works.items 0 ≡ Some (get_or stood.works.items 0 None) = slice_get-get_or stood.works.items 0 None standing.some in
          absurd (cc)
      by (Some None) at busy = absurd (cc)
      by (Some (Some work)) at busy =
          let live = works_at base stood standing 0 work at in
          let idle : Some live.0 ≡ None = idle_at stood.book.slots 0 (Some live.0) finished.2 live.1 in
          absurd (cc)
