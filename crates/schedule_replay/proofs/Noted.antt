-- What is noted of a slot that a line may be worked at.
use Rattle.std.proofs.Common.{◌≡◌, ℕ, ◌<◌, Bool, true, false, List, [], ◌∷◌, length, get_or, map, refl, sym, ap, ◌∙◌, subst, arith}
use Rattle.std.specs.Prelude.{Option, Some, None, is_none, slice_get}
use Rattle.std.specs.List.{list_all}
use Rattle.std.specs.Option.{option_map}
use Rattle.std.proofs.lemmas.Option.{slice_get-get_or, slice_get_within}
use Rattle.book_core.specs.Book.{SeenBook, slot_at}
use Rattle.book_core.specs.Steps.{IsFree}
use Rattle.book_core.specs.declared.live.Live.{Live}
use Rattle.known_jobs.specs.Jobs.{known_at, known_in}
use Rattle.lone_worker.specs.Work.{Base}
use Rattle.lone_worker.specs.declared.work.Work.{Work}
use Rattle.schedule_replay.specs.Shown.{shown, shown_slot, working_of}
use Rattle.schedule_replay.specs.Standing.{IsSlotAt, IsStanding}
use Rattle.schedule_replay.specs.Stands.{Working, may_take, work_at}
use Rattle.schedule_replay.specs.declared.stand.Stand.{Stand as Stood}
use Rattle.schedule_replay.proofs.Slotted.{shown_at}

module _ (stood : Stood) (slot : ℕ) where
  abbrev works : List (Option Work)
  works = stood.works.items

  -- as it is seen
  seen : work_at (shown stood) slot ≡ option_map shown_slot (slice_get works slot)
  seen = shown_at works slot

  -- there is a work, where a line asks for one
  pub has_work : (may : Option (Option Working) → Bool) → may None ≡ false → may (Some None) ≡ false → may (work_at (shown stood) slot) ≡ true
      → (work : Work) × (slice_get works slot ≡ Some (Some work)) × (may (Some (Some (working_of work))) ≡ true)
  has_work may none free is = by (slice_get works slot) refl (ap may (sym seen) ∙ is)
    where
      by : (at : Option (Option Work)) → slice_get works slot ≡ at → may (option_map shown_slot at) ≡ true
          → (work : Work) × (slice_get works slot ≡ Some (Some work)) × (may (Some (Some (working_of work))) ≡ true)
      by None at is = absurd (cc)
      by (Some None) at is = absurd (cc)
      by (Some (Some work)) at is = (work, at, is)

  -- and none where it takes a job
  pub no_work : may_take (work_at (shown stood) slot) ≡ true → slice_get works slot ≡ Some None
  no_work is = by (slice_get works slot) refl (ap may_take (sym seen) ∙ is)
    where
      by : (at : Option (Option Work)) → slice_get works slot ≡ at → may_take (option_map shown_slot at) ≡ true → slice_get works slot ≡ Some None
      by None at is = absurd (cc)
      by (Some None) at is = at
      by (Some (Some work)) at is = absurd (cc)

  pub seen_work : (work : Work) → slice_get works slot ≡ Some (Some work) → work_at (shown stood) slot ≡ Some (Some (working_of work))
  seen_work work at = seen ∙ ap (option_map shown_slot) at

-- no slot works, as it is seen
pub none_works : (all : List (Option Work)) → list_all is_none (map shown_slot all) ≡ list_all is_none all
none_works [] = refl
none_works (None ∷ later) = none_works later
none_works (Some work ∷ later) = refl

-- a slot of which no job is known is free
pub free_where : (b : SeenBook) (slot : ℕ) → slot < length b.slots → known_at b slot ≡ None → IsFree b slot
free_where b slot inside none = by (slot_at b slot) refl none
  where
    by : (at : Option (Option Live)) → slot_at b slot ≡ at → known_in b.panes at ≡ None → IsFree b slot
    by None at none =
        let some : slice_get b.slots slot ≡ Some (get_or b.slots slot None) = slice_get-get_or b.slots slot None inside in
        absurd (cc)
    by (Some None) at none = at
    by (Some (Some now)) at none = absurd (cc)

module _ (base : Base) (stood : Stood) (standing : IsStanding base stood) (slot : ℕ) where
  pub inside : (work : Option Work) → slice_get stood.works.items slot ≡ Some work → slot < length stood.book.slots
  inside work at = let within = slice_get_within stood.works.items slot work at in omega (arith, standing.count, within)

  pub slot_free : slice_get stood.works.items slot ≡ Some None → IsFree stood.book slot
  slot_free at = free_where stood.book slot (inside None at) (subst (IsSlotAt base (known_at stood.book slot)) at (standing.each slot))

  pub slot_works : (work : Work) → slice_get stood.works.items slot ≡ Some (Some work) → IsSlotAt base (known_at stood.book slot) (Some (Some work))
  slot_works work at = subst (IsSlotAt base (known_at stood.book slot)) at (standing.each slot)
