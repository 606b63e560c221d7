-- The rule at the start, and what it says at the end, when one pass has all numbers.
use Rattle.std.proofs.Common.{◌≡◌, ℕ, zero, suc, List, [], ◌∷◌, sym, refl, ap, subst, inl, ⊎_elim, arith}
use Rattle.std.specs.Prelude.{Some}
use mathlib.Core.Option.{some, some-injective, some-ne-none, Option as Maybe}
use lib.ListN.{get_elem?}
use Rattle.atomic_table.specs.Table.{State, opening}
use Rattle.turn_desk.specs.declared.held.Note.{Note}
use Rattle.turn_desk.specs.declared.view.Stage.TheVariants.{Idle}
use Rattle.turn_desk.specs.declared.view.View.{View}
use Rattle.turn_desk.specs.declared.view.Slot.{Slot}
use Rattle.turn_desk.specs.Notes.{size_of, opening_note, IsSound}
use Rattle.turn_desk.specs.Rule.{IsPresent, IsAside, IsInLine, size_in, Stands, Turns, view_at}
use Rattle.turn_desk.proofs.Numbers.{opening_sound}
use Rattle.turn_desk.proofs.Stages.{busy_present, present_size, size_positive}
use Rattle.turn_desk.proofs.Views.{same_at, sum_of_two}

module _ {V A C : Type 0} (fits : V → C → Note A → Type 0) (constant : C) where
  abbrev W : Type 0
  W = View V A C

  abbrev Rule : State (Slot V A) W → Type 0
  Rule = Turns fits constant

  -- a fact of the one member of a list
  each_one : (P : W → Type 0) (w : W) → P w → (j : ℕ) (d : W) → get_elem? (w ∷ []) j ≡ some d → P d
  each_one P w p zero d at = subst P (some-injective w d at) p
  each_one P w p (suc j) d at = absurd (some-ne-none d (sym at))

  none_apart : (R : Type 0) (w : W) (i j : ℕ) (x y : W) → ¬ (i ≡ j) → get_elem? (w ∷ []) i ≡ some x → get_elem? (w ∷ []) j ≡ some y → R
  none_apart R w zero zero x y away a b = absurd (away refl)
  none_apart R w zero (suc j) x y away a b = absurd (some-ne-none y (sym b))
  none_apart R w (suc i) j x y away a b = absurd (some-ne-none x (sym a))

  pub opens : (about : A) (value : V) (slot : Slot V A) → slot.value ≡ Some value → fits value constant (opening_note about)
      → Rule (opening (0 ∷ 0 ∷ []) (slot ∷ []) (view_at (opening_note about) (Some constant) Idle))
  opens about value slot has fit = let first : W = view_at (opening_note about) (Some constant) Idle in record {
    drawn = 0;
    serving = 0;
    value = value;
    words = refl;
    out = refl;
    sizes = refl;
    each = λ j d at _. each_one (Stands fits constant value) first (record { sound = opening_sound about; constant_is = refl; fitting = fit }) j d at;
    line = each_one (λ d. IsInLine 0 0 value d.stage) first tt;
    apart = λ i j v w away a b. none_apart _ first i j v w away a b;
    tickets = λ i j t v w away a b. none_apart _ first i j v w away a b;
    slot = inl ((slot, refl, has), each_one (λ d. IsAside d.stage) first tt);
  }

  -- with one pass that has all numbers the slot is home, and its value fits that pass's note
  pub closes : (s : State (Slot V A) W) (id : ℕ) (v : W) → Rule s → get_elem? s.views id ≡ some v → v.stage ≡ Idle → size_of v.note ≡ 4294967296
      → (x : V) × (slot : Slot V A) × (get_elem? s.homes 0 ≡ some (some slot)) × (slot.value ≡ Some x) × fits x constant v.note × IsSound v.note
  closes s id v r at idle whole =
      let present : IsPresent v.stage = subst IsPresent (sym idle) tt in let mine = r.each id v at present in
      let size : size_in v ≡ size_of v.note = present_size (size_of v.note) v.stage present in ⊎_elim
      (λ home. (r.value, home.0.0, ap (λ (hs : List (Maybe (Slot V A))). get_elem? hs 0) home.0.1, home.0.2, mine.fitting, mine.sound))
      (λ busy.
      let there : IsPresent busy.2.stage = busy_present busy.2.stage busy.4 in
      let away : ¬ (id ≡ busy.1) = λ e. busy.4 (subst (λ (x : W). IsAside x.stage) (same_at s.views id v busy.2 at (subst (λ (k : ℕ). get_elem? s.views k ≡ some busy.2) (sym e) busy.3)) (subst IsAside (sym idle) tt)) in
      let other : size_in busy.2 ≡ size_of busy.2.note = present_size (size_of busy.2.note) busy.2.stage there in
      let some_size = size_positive fits constant r.value busy.2 (r.each busy.1 busy.2 busy.3 there) in
      let two = sum_of_two size_in s.views id busy.1 v busy.2 away at busy.3 in let all = r.sizes in
      absurd (omega arith)) r.slot
