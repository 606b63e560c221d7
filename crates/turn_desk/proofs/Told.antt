-- What the desk's calls make of what the steps told.
use Rattle.std.proofs.Common.{◌≡◌, ℕ, ◌+◌, ◌%◌, false, List, [], ◌∷◌, ◌++◌, map, sym, ap, ◌∙◌, subst}
use Rattle.std.specs.Prelude.{Some}
use Rattle.std.specs.Option.{is_some}
use mathlib.Core.Option.{some, none, some-injective}
use lib.ListN.{get_elem?}
use Rattle.atomic_table.specs.Table.{Step, rest, step, opening, Final, Seen, Allows}
use Rattle.turn_desk.specs.declared.held.Note.{Note}
use Rattle.turn_desk.specs.declared.view.Stage.TheVariants.{Idle}
use Rattle.turn_desk.specs.declared.view.View.{View}
use Rattle.turn_desk.specs.declared.view.Slot.{Slot}
use Rattle.turn_desk.specs.Notes.{size_of, IsSound, IsApart, HasSameNumbers, opening_note}
use Rattle.turn_desk.specs.Rule.{Turns, view_at}
use Rattle.turn_desk.specs.Standing.{HasTaken}
use Rattle.turn_desk.specs.Plays.{Knows, Serves, Ends, HasDrawn, IsInTurn}
use Rattle.turn_desk.proofs.Ending.{opens, closes}
use Rattle.turn_desk.proofs.Stages.{taken_is, one_out}
use Rattle.turn_desk.proofs.Steps.{ends}

-- what the steps told doesn't depend on the step
abbrev any_step : {S : Type 0} → Step S
any_step = step 0 0 0 0 none

module _ {V A C : Type 0} (fits : V → C → Note A → Type 0) where
  -- the load found the ticket
  pub found_turn : (m m' m'' : Knows V A C) (ticket found : ℕ) → HasDrawn ticket m → m' ≡ m → Serves fits any_step m' found m'' → found ≡ ticket → IsInTurn fits m m''
  found_turn m m' m'' ticket found drawn same serves hit = let told = subst (λ (z : Knows V A C). Serves fits any_step z found m'') same serves in
      (drawn.0, (told drawn.0 drawn.2).0 (hit ∙ drawn.1))

  module _ (m m' : Knows V A C) (turn : IsInTurn fits m m') where
    pub has_slot : (old : Slot V A) × (m'.1 ≡ (0, old) ∷ rest m'.1)
    has_slot = let e = ap (λ (z : Knows V A C). z.1) turn.1.2 in (turn.1.1, e ∙ ap (λ (cs : List (ℕ × Slot V A)). (0, turn.1.1) ∷ rest cs) (sym e))

module _ {V A C : Type 0} (fits : V → C → Note A → Type 0) (constant : C) where
  -- the list that has the one slot
  pub opens_with : (about : A) (value : V) (slot : Slot V A) (xs items : List (Slot V A)) → items ≡ xs ++ slot ∷ [] → xs ≡ [] → slot.value ≡ Some value → fits value constant (opening_note about)
      → Turns fits constant (opening (0 ∷ 0 ∷ []) items (view_at (opening_note about) (Some constant) Idle))
  opens_with about value slot xs items made empty has fit = subst (λ (ys : List (Slot V A)). Turns fits constant (opening (0 ∷ 0 ∷ []) ys (view_at (opening_note about) (Some constant) Idle)))
      (sym (made ∙ ap (λ (ys : List (Slot V A)). ys ++ slot ∷ []) empty)) (opens fits constant about value slot has fit)

  -- the value that the slot has at the end
  pub ends_with : (id : ℕ) (v : View V A C) (words : List ℕ) (slots : List (Slot V A)) (slot : Slot V A) → Final (Seen (Turns fits constant) id v) words slots → v.stage ≡ Idle → size_of v.note ≡ 4294967296
      → get_elem? slots 0 ≡ some slot → (x : V) × (slot.value ≡ Some x) × fits x constant v.note × IsSound v.note
  ends_with id v words slots slot last idle whole at = let end = closes fits constant last.0 id v last.1.0 last.1.1 idle whole in
      let same : end.1 ≡ slot = some-injective end.1 slot (sym (last.4 0 end.1 end.2) ∙ at) in
      (end.0, sym (ap (λ (z : Slot V A). z.value) same) ∙ end.3, end.4, end.5)

  module _ (moves : C → V → Note A → V → Note A → Type 0)
      (keeps_own : (c : C) (x y : V) (m n : Note A) → IsSound m → fits x c m → moves c x m y n → fits y c n × HasSameNumbers m n)
      (keeps_others : (c : C) (x y : V) (m n other : Note A) → IsSound m → IsSound other → IsApart m other → fits x c m → moves c x m y n → fits x c other → fits y c other) where
    -- the pass in turn, once another value is in its slot, may end the turn
    pub may_end : (slots id : ℕ) (me m : Knows V A C) (slot : Slot V A) (lent y : V) (note : Note A) → HasTaken lent me.0.stage → map (λ k. k.0) me.1 ≡ 0 ∷ [] → map (λ k. is_some k.1.value) me.1 ≡ false ∷ []
        → m ≡ (me.0, (0, slot) ∷ rest me.1) → slot.value ≡ Some y → slot.note.value ≡ note → moves constant lent me.0.note y note
        → Allows (Turns fits constant) slots id m 1 (λ n. (n + 1) % 18446744073709551616) (Ends (step slots 1 1 0 none) m)
    may_end slots id me m slot lent y note taken out vacant put has named move =
        let one = one_out me.1 out vacant in let turn = taken_is lent me.0.stage taken in
        subst (λ (z : Knows V A C). Allows (Turns fits constant) slots id z 1 (λ n. (n + 1) % 18446744073709551616) (Ends (step slots 1 1 0 none) z)) (sym put)
        (ends fits constant moves keeps_own keeps_others slots id turn.0 (me.0, (0, slot) ∷ rest me.1) lent y slot turn.1 (ap (λ (cs : List (ℕ × Slot V A)). (0, slot) ∷ rest cs) one.1) has
        (subst (λ (n : Note A). moves constant lent me.0.note y n) (sym named) move))

module _ {V A C : Type 0} where
  pub out_slot : (me : Knows V A C) → map (λ k. k.0) me.1 ≡ 0 ∷ [] → map (λ k. is_some k.1.value) me.1 ≡ false ∷ [] → (old : Slot V A) × (me.1 ≡ (0, old) ∷ rest me.1)
  out_slot me out vacant = let one = one_out me.1 out vacant in (one.0, one.1 ∙ ap (λ (cs : List (ℕ × Slot V A)). (0, one.0) ∷ rest cs) (sym one.1))

  pub gave : (me m m' : Knows V A C) (slot : Slot V A) (found : ℕ) → map (λ k. k.0) me.1 ≡ 0 ∷ [] → map (λ k. is_some k.1.value) me.1 ≡ false ∷ []
      → m ≡ (me.0, (0, slot) ∷ rest me.1) → Ends any_step m found m' → m' ≡ (view_at slot.note.value me.0.constant Idle, [])
  gave me m m' slot found out vacant put ended = let one = one_out me.1 out vacant in
      ended (0, slot) (ap (λ (z : Knows V A C). z.1) put ∙ ap (λ (cs : List (ℕ × Slot V A)). (0, slot) ∷ rest cs) one.1)
      ∙ (λ i. (view_at slot.note.value (put i).0.constant Idle, []))
