-- One slot works, and what the others work stays as it is.
use Rattle.std.proofs.Common.{◌≡◌, ◌==◌, ℕ, ◌<◌, Bool, true, false, List, ◌++◌, length, map, refl, sym, ap, ◌∙◌, subst, arith}
use Rattle.std.specs.Prelude.{Option, Some, None, slice_get, slice_set}
use Rattle.std.specs.Option.{option_map}
use Rattle.std.proofs.lemmas.Bool.{eqb-true}
use Rattle.std.proofs.lemmas.Bool.Decides.{nat_tests}
use Rattle.std.proofs.lemmas.List.{map-set}
use Rattle.std.proofs.lemmas.Option.{slice_get-map}
use Rattle.beam_values.specs.declared.cell.Pane.{Pane}
use Rattle.book_core.specs.Book.{SeenBook, slot_at}
use Rattle.book_core.specs.Facts.{AreHeldOnce}
use Rattle.book_core.specs.Jobs.{job_of}
use Rattle.book_core.specs.declared.live.Live.{Live}
use Rattle.book_core.specs.declared.live.Live.TheVariants as live
use Rattle.book_core.proofs.HeldMarks.{slice_get-set_other, slice_get-set_same}
use Rattle.known_jobs.specs.Jobs.{IsJobOf, KnownJob, known_at, known_in}
use Rattle.known_jobs.specs.Known.{known_fit, known_later}
use Rattle.lone_worker.specs.Work.{Base}
use Rattle.lone_worker.specs.declared.work.Work.{Work}
use Rattle.schedule_replay.specs.Shown.{shown_slot}
use Rattle.schedule_replay.specs.Standing.{IsSlotAt}

-- ---- what other slots work

-- the panes are the same
pub known_other : (b new : SeenBook) (slot other : ℕ) (worked : Option Live) → new.slots ≡ slice_set b.slots slot worked → new.panes ≡ b.panes → (other ≡ slot → ⊥) → known_at new other ≡ known_at b other
known_other b new slot other worked set panes apart =
    ap (λ (p : List Pane). known_in p (slot_at new other)) panes
    ∙ ap (known_in b.panes) (ap (λ (slots : List (Option Live)). slice_get slots other) set ∙ slice_get-set_other b.slots slot other worked apart)

-- more have fired
known_in_more : (b : SeenBook) (more : List Pane) (slot : ℕ) → AreHeldOnce b → (worked : Option (Option Live)) → slot_at b slot ≡ worked → known_in (b.panes ++ more) worked ≡ known_in b.panes worked
known_in_more b more slot held None is = refl
known_in_more b more slot held (Some None) is = refl
known_in_more b more slot held (Some (Some (live.Span piece attempted))) is = refl
known_in_more b more slot held (Some (Some (live.Key turn))) is = refl
known_in_more b more slot held (Some (Some (live.Batch batch))) is =
    let known : KnownJob = record { job = job_of b.panes (live.Batch batch); attempted = None } in
    let at : known_at b slot ≡ Some known = ap (known_in b.panes) is in
    let fit : IsJobOf b.panes (Some known) (Some (Some (live.Batch batch))) =
    subst (λ (k : Option KnownJob). IsJobOf b.panes k (Some (Some (live.Batch batch)))) at (subst (IsJobOf b.panes (known_at b slot)) is (known_fit b slot known held at)) in
    let later = known_later b.panes more (Some known) (Some (Some (live.Batch batch))) fit in
    ap Some (sym later.0)

pub known_more : (b new : SeenBook) (slot other : ℕ) (worked : Option Live) (more : List Pane) → AreHeldOnce b → new.slots ≡ slice_set b.slots slot worked → new.panes ≡ b.panes ++ more
    → (other ≡ slot → ⊥) → known_at new other ≡ known_at b other
known_more b new slot other worked more held set panes apart =
    ap (λ (p : List Pane). known_in p (slot_at new other)) panes
    ∙ ap (known_in (b.panes ++ more)) (ap (λ (slots : List (Option Live)). slice_get slots other) set ∙ slice_get-set_other b.slots slot other worked apart)
    ∙ known_in_more b more other held (slot_at b other) refl

-- ---- what is noted of each slot

module _ (base : Base) (b new : SeenBook) (works : List (Option Work)) (slot : ℕ) (work : Option Work) where
  pub each_set : ((at : ℕ) → IsSlotAt base (known_at b at) (slice_get works at)) → slot < length works → ((other : ℕ) → (other ≡ slot → ⊥) → known_at new other ≡ known_at b other)
      → IsSlotAt base (known_at new slot) (Some work) → (at : ℕ) → IsSlotAt base (known_at new at) (slice_get (slice_set works slot work) at)
  each_set each inside others own = λ at. by at (at == slot) refl
    where
      by : (at : ℕ) (same : Bool) → (at == slot) ≡ same → IsSlotAt base (known_at new at) (slice_get (slice_set works slot work) at)
      by at true is =
          let one : at ≡ slot = eqb-true at slot is in
          subst (λ (k : ℕ). IsSlotAt base (known_at new k) (slice_get (slice_set works slot work) k)) (sym one)
          (subst (IsSlotAt base (known_at new slot)) (sym (slice_get-set_same works slot work inside)) own)
      by at false is =
          let apart : at ≡ slot → ⊥ = λ one. grind (arith, nat_tests) in
          subst (λ (k : Option KnownJob). IsSlotAt base k (slice_get (slice_set works slot work) at)) (sym (others at apart))
          (subst (IsSlotAt base (known_at b at)) (sym (slice_get-set_other works slot at work apart)) (each at))

-- ---- what contracts see of them

pub shown_set : (works : List (Option Work)) (slot : ℕ) (work : Option Work) → map shown_slot (slice_set works slot work) ≡ slice_set (map shown_slot works) slot (shown_slot work)
shown_set works slot work = map-set shown_slot works slot work

pub shown_at : (works : List (Option Work)) (slot : ℕ) → slice_get (map shown_slot works) slot ≡ option_map shown_slot (slice_get works slot)
shown_at works slot = slice_get-map shown_slot works slot
