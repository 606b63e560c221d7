-- How an arrival is led to its cell, and room is kept there; how any cell is found.
use Rattle.std.specs.Prelude.{◌≡◌, ℕ, ◌+◌, ◌≤◌, ◌==◌, Bool, false, not, ◌&&◌, if◌then◌else◌, List, [], ◌∷◌, ◌++◌, slice_get, Option, Some, None}
use Rattle.std.specs.BTreeMap as tree
use Rattle.beam_values.specs.declared.arrival.Arrival.{Arrival}
use Rattle.beam_values.specs.declared.plan.Plan.{Plan}
use Rattle.cell_index.specs.declared.index_key.CellKey.{CellKey}
use Rattle.beam_values.specs.Intervals.{Interval}
use Rattle.beam_values.specs.declared.value.Value.{Value}
use Rattle.stateful_core.specs.Cells.{KeyCell, belongs, is_cell_of}
use Rattle.stateful_core.specs.Names.{AreFound, AreRoutes, arrival_name, names_of, number_in}
use Rattle.stateful_core.specs.Opening.{fresh_one, is_any}
use Rattle.stateful_core.specs.Placing.{fresh_cell}
use Rattle.stateful_core.specs.Seen.{cells_of}
use Rattle.stateful_core.specs.declared.routing.Routed.{Routed}
use Rattle.stateful_core.specs.declared.slot.Slot.{Slot}

abbrev pub belongs_to : Arrival → Option KeyCell → Bool
belongs_to arrival None = false
belongs_to arrival (Some cell) = belongs arrival cell

-- whether the cell with this number is that of a node, key and window
abbrev pub is_in : ℕ → Value → Interval → Option KeyCell → Bool
is_in node key span None = false
is_in node key span (Some cell) = is_cell_of node key span cell

abbrev pub is_cell_at : ℕ → Value → Interval → List KeyCell → ℕ → Bool
is_cell_at node key span cells at = is_in node key span (slice_get cells at)

-- whether the cell with this number is the arrival's
abbrev pub belongs_at : Arrival → List KeyCell → ℕ → Bool
belongs_at arrival cells at = belongs_to arrival (slice_get cells at)

abbrev pub opened_for : List KeyCell → Arrival → List KeyCell → List KeyCell
opened_for cells arrival fresh = if not (is_any arrival cells) && not (is_any arrival fresh) then fresh ++ fresh_cell arrival ∷ [] else fresh

-- the arrival has a cell, maybe a new one behind the others
pub record IsNumbered (cells : List KeyCell) (arrival : Arrival) (places : tree.BTreeMap CellKey ℕ) (number : ℕ) (old new : List KeyCell) : Type 0 where
  pub fresh : new ≡ opened_for cells arrival old
  pub found : AreFound places (names_of (cells ++ new))
  pub at : number_in (names_of (cells ++ new)) (arrival_name arrival) ≡ Some number

-- one arrival more has its route
pub record IsRouted (plan : Plan) (cells : List KeyCell) (arrival : Arrival) (places : tree.BTreeMap CellKey ℕ) (old new : Routed) : Type 0 where
  pub fresh : cells_of new.fresh.items ≡ fresh_one plan cells (cells_of old.fresh.items) arrival
  pub found : AreFound places (names_of (cells ++ cells_of new.fresh.items))
  pub routes : (arrivals : List Arrival) → AreRoutes plan (names_of (cells ++ cells_of old.fresh.items)) arrivals old.routes.items
      → AreRoutes plan (names_of (cells ++ cells_of new.fresh.items)) (arrivals ++ arrival ∷ []) new.routes.items

-- each slot has the room that it had, and that of one number one more
abbrev pub one_if_at : ℕ → ℕ → ℕ
one_if_at number at = if number == at then 1 else 0

pub record IsOneKept (first number : ℕ) (slots after : List Slot) : Type 0 where
  pub kept : (at : ℕ) (new : Slot) → slice_get after at ≡ Some new
      → (old : Slot) × (slice_get slots at ≡ Some old) × (old.waiting.room + one_if_at number (first + at) ≤ new.waiting.room)
