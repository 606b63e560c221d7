-- What each kind of step tells its pass.
use Rattle.std.specs.Prelude.{◌≡◌, ◌≢◌, ℕ, ◌%◌, [], ◌∷◌, Some}
use Rattle.atomic_table.specs.Table.{Me, Step}
use Rattle.turn_desk.specs.declared.held.Note.{Note}
use Rattle.turn_desk.specs.declared.view.Stage.TheVariants.{Idle, Waits, InTurn}
use Rattle.turn_desk.specs.declared.view.View.{View}
use Rattle.turn_desk.specs.declared.view.Slot.{Slot}
use Rattle.turn_desk.specs.Notes.{IsSound}
use Rattle.turn_desk.specs.Rule.{view_at, at_stage}

-- what a seat knows and holds
abbrev pub Knows : Type 0 → Type 0 → Type 0 → Type 0
Knows V A C = Me (Slot V A) (View V A C)

module _ {V A C : Type 0} where
  -- a ticket was drawn: the word was the ticket, modulo 2 ^ 64
  abbrev pub Draws : Step (Slot V A) → Knows V A C → ℕ → Knows V A C → Type 0
  Draws st m found m' = (t : ℕ) × (found ≡ t % 18446744073709551616) × (m' ≡ (at_stage m.0 (Waits t), m.1))

  -- in turn, with the slot and the value in it, which fits the pass's note
  abbrev pub IsServed : (V → C → Note A → Type 0) → View V A C → ℕ → Knows V A C → Type 0
  IsServed fits v t m' =
      (x : V) × (slot : Slot V A) × (m' ≡ (at_stage v (InTurn t x), (0, slot) ∷ [])) × (slot.value ≡ Some x)
      × IsSound v.note × ((c : C) → v.constant ≡ Some c → fits x c v.note)

  -- who waits is in turn where its ticket was found, and waits on where not
  abbrev pub Serves : (V → C → Note A → Type 0) → Step (Slot V A) → Knows V A C → ℕ → Knows V A C → Type 0
  Serves fits st m found m' =
      (t : ℕ) → m.0.stage ≡ Waits t
      → (found ≡ t % 18446744073709551616 → IsServed fits m.0 t m') × (found ≢ t % 18446744073709551616 → m' ≡ m)

  -- the turn ended, and the pass has the note that stood in the slot
  abbrev pub Ends : Step (Slot V A) → Knows V A C → ℕ → Knows V A C → Type 0
  Ends st m found m' = (k : ℕ × Slot V A) → m.1 ≡ k ∷ [] → m' ≡ (view_at k.1.note.value m.0.constant Idle, [])

  -- a pass that drew the ticket, whose word was found
  abbrev pub HasDrawn : ℕ → Knows V A C → Type 0
  HasDrawn found m = (t : ℕ) × (found ≡ t % 18446744073709551616) × (m.0.stage ≡ Waits t) × (m.1 ≡ [])

  -- the same pass, in turn
  abbrev pub IsInTurn : (V → C → Note A → Type 0) → Knows V A C → Knows V A C → Type 0
  IsInTurn fits m m' = (t : ℕ) × IsServed fits m.0 t m'
