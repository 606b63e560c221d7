-- The rule of a desk: what is true of its two words, its slot and its views between any two steps.
-- Word 0 counts the tickets that were drawn, word 1 the turns that ended. The slot has the value, or is out with the pass in turn.
use Rattle.std.specs.Prelude.{◌≡◌, ℕ, ◌+◌, ◌%◌, ◌<◌, ◌≤◌, ◌⊎◌, List, [], ◌∷◌, sum_by, Option, Some}
use mathlib.Core.Option.{some, none, Option as Maybe}
use lib.ListN.{get_elem?}
use Rattle.atomic_table.specs.Table.{State}
use Rattle.turn_desk.specs.declared.held.Note.{Note}
use Rattle.turn_desk.specs.declared.view.Stage.{Stage}
use Rattle.turn_desk.specs.declared.view.Stage.TheVariants.{Spent, Idle, Waits, InTurn}
use Rattle.turn_desk.specs.declared.view.View.{View}
use Rattle.turn_desk.specs.declared.view.Slot.{Slot}
use Rattle.turn_desk.specs.Notes.{size_of, IsSound, IsApart}

module _ {V : Type 0} where
  -- its note is not in another pass
  abbrev pub IsPresent : Stage V → Type 0
  IsPresent Spent = ⊥
  IsPresent Idle = Unit {0}
  IsPresent (Waits t) = Unit {0}
  IsPresent (InTurn t x) = Unit {0}

  -- it is not in turn
  abbrev pub IsAside : Stage V → Type 0
  IsAside Spent = Unit {0}
  IsAside Idle = Unit {0}
  IsAside (Waits t) = Unit {0}
  IsAside (InTurn t x) = ⊥

  -- n, where the pass is not spent
  abbrev pub if_present : ℕ → Stage V → ℕ
  if_present n Spent = 0
  if_present n Idle = n
  if_present n (Waits t) = n
  if_present n (InTurn t x) = n

  -- how many tickets are out with it
  abbrev pub tickets_of : Stage V → ℕ
  tickets_of Spent = 0
  tickets_of Idle = 0
  tickets_of (Waits t) = 1
  tickets_of (InTurn t x) = 1

  -- the ticket u is out with it
  abbrev pub HasTicket : ℕ → Stage V → Type 0
  HasTicket u Spent = ⊥
  HasTicket u Idle = ⊥
  HasTicket u (Waits t) = t ≡ u
  HasTicket u (InTurn t x) = t ≡ u

  -- a ticket is from serving up to the number drawn, and in turn is the ticket that is served, by a pass that took the value
  abbrev pub IsInLine : ℕ → ℕ → V → Stage V → Type 0
  IsInLine serving drawn value Spent = Unit {0}
  IsInLine serving drawn value Idle = Unit {0}
  IsInLine serving drawn value (Waits t) = (serving ≤ t) × (t < drawn)
  IsInLine serving drawn value (InTurn t x) = (t ≡ serving) × (t < drawn) × (x ≡ value)

-- the slot is there, with the value
abbrev pub IsHome : {V A : Type 0} → V → List (Maybe (Slot V A)) → Type 0
IsHome {V} {A} value homes = (x : Slot V A) × (homes ≡ some x ∷ []) × (x.value ≡ Some value)

module _ {V A C : Type 0} where
  -- the numbers of a view, of which a spent one has none
  abbrev pub size_in : View V A C → ℕ
  size_in v = if_present (size_of v.note) v.stage

  abbrev pub tickets_in : View V A C → ℕ
  tickets_in v = tickets_of v.stage

  -- the constant and the note fit the value
  pub record Stands (fits : V → C → Note A → Type 0) (constant : C) (value : V) (v : View V A C) : Type 0 where
    pub sound : IsSound v.note
    pub constant_is : v.constant ≡ Some constant
    pub fitting : fits value constant v.note

  pub record Turns (fits : V → C → Note A → Type 0) (constant : C) (s : State (Slot V A) (View V A C)) : Type 0 where
    -- So many tickets were drawn.
    pub drawn : ℕ
    -- So many turns ended, so this is the ticket that is served.
    pub serving : ℕ
    -- The value that is in the slot, or that the pass in turn took.
    pub value : V
    -- The words count modulo 2 ^ 64.
    pub words : s.words ≡ drawn % 18446744073709551616 ∷ serving % 18446744073709551616 ∷ []
    -- As many tickets are out as lie between the two counts.
    pub out : serving + sum_by tickets_in s.views ≡ drawn
    -- All notes together have 2 ^ 32 numbers.
    pub sizes : sum_by size_in s.views ≡ 4294967296
    -- Each pass that is not spent has a sound note, which fits the value.
    pub each : (j : ℕ) (v : View V A C) → get_elem? s.views j ≡ some v → IsPresent v.stage → Stands fits constant value v
    -- Each ticket lies between the two counts, and a pass in turn has the one that is served.
    pub line : (j : ℕ) (v : View V A C) → get_elem? s.views j ≡ some v → IsInLine serving drawn value v.stage
    -- No two notes share a number.
    pub apart : (i j : ℕ) (v w : View V A C) → ¬ (i ≡ j) → get_elem? s.views i ≡ some v → get_elem? s.views j ≡ some w → IsPresent v.stage → IsPresent w.stage → IsApart v.note w.note
    -- No two passes have one ticket.
    pub tickets : (i j t : ℕ) (v w : View V A C) → ¬ (i ≡ j) → get_elem? s.views i ≡ some v → get_elem? s.views j ≡ some w → HasTicket t v.stage → HasTicket t w.stage → ⊥
    -- The slot has the value and no pass is in turn, or the slot is out with the pass in turn.
    pub slot : (IsHome value s.homes × ((j : ℕ) (v : View V A C) → get_elem? s.views j ≡ some v → IsAside v.stage))
        ⊎ ((s.homes ≡ none ∷ []) × (j : ℕ) × (v : View V A C) × (get_elem? s.views j ≡ some v) × (IsAside v.stage → ⊥))

  -- the view of these parts, and a view at another stage
  abbrev pub view_at : Note A → Option C → Stage V → View V A C
  view_at note constant stage = record { note = note; constant = constant; stage = stage }

  abbrev pub at_stage : View V A C → Stage V → View V A C
  at_stage v stage = record v { stage = stage }
