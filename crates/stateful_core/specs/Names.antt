-- How arrivals find their cells: an index leads from node, window and key to numbers, and a commit that is prepared has the numbers of the cells of its arrivals.
use Rattle.std.specs.Prelude.{◌≡◌, ℕ, ◌+◌, ◌<◌, ◌≤◌, ◌==◌, Bool, true, ◌&&◌, List, ◌++◌, length, map, position, slice_get, Option, Some}
use Rattle.std.specs.BTreeMap as tree
use Rattle.std.specs.List.{count_by, filter}
use Rattle.std.specs.Str.{bytes_eq}
use Rattle.beam_values.specs.Grouping.{key_of}
use Rattle.beam_values.specs.Nodes.{is_stateful}
use Rattle.beam_values.specs.Spans.{same_span}
use Rattle.beam_values.specs.Spelling.{spelling}
use Rattle.beam_values.specs.declared.arrival.Arrival.{Arrival}
use Rattle.beam_values.specs.declared.plan.Plan.{Plan}
use Rattle.cell_index.specs.Indexes.{cell_key_cmp}
use Rattle.cell_index.specs.declared.index_key.CellKey.{CellKey}
use Rattle.stateful_core.specs.Cells.{KeyCell}
use Rattle.stateful_core.specs.Seen.{cells_of}
use Rattle.stateful_core.specs.declared.slot.Slot.{Slot}

-- what a cell is found by
abbrev pub name_of : KeyCell → CellKey
name_of cell = record { node = cell.log.node; span = cell.log.span; key = cell.log.key }

abbrev pub names_of : List KeyCell → List CellKey
names_of cells = map name_of cells

abbrev pub arrival_name : Arrival → CellKey
arrival_name arrival = record { node = arrival.node; span = arrival.element.span; key = key_of arrival.element }

abbrev pub is_name : CellKey → CellKey → Bool
is_name wanted name = name.node == wanted.node && bytes_eq (spelling name.key) (spelling wanted.key) && same_span name.span wanted.span

-- The index leads to each of the names, and no two of them are of one cell. It may lead to more: a number that was prepared, and not placed, is compared
-- with the cell that stands there.
pub record AreFound (places : tree.BTreeMap CellKey ℕ) (names : List CellKey) : Type 0 where
  pub finds : (wanted : CellKey) (at : ℕ) (name : CellKey) → slice_get names at ≡ Some name → is_name wanted name ≡ true → tree.get cell_key_cmp places wanted ≡ Some at

-- what all key cells keep, with the new ones of a commit that is prepared
pub record AreStored (places : tree.BTreeMap CellKey ℕ) (slots fresh : List Slot) : Type 0 where
  pub few : length slots < 4294967296
  pub found : AreFound places (names_of (cells_of slots ++ cells_of fresh))

-- the number of the first cell of a name
abbrev pub number_in : List CellKey → CellKey → Option ℕ
number_in names wanted = position (is_name wanted) names

abbrev pub routes_of : Plan → List CellKey → List Arrival → List (Option ℕ)
routes_of plan names arrivals = map (λ a. number_in names (arrival_name a)) (filter (λ a. is_stateful plan a.node) arrivals)

-- these are the numbers of the cells of those that arrive at Stateful nodes, in their order
pub record AreRoutes (plan : Plan) (names : List CellKey) (arrivals : List Arrival) (routes : List ℕ) : Type 0 where
  pub are : map (λ r. Some r) routes ≡ routes_of plan names arrivals

abbrev pub is_route : ℕ → ℕ → Bool
is_route number route = route == number

-- each cell has room for those whose routes lead to it; `first` is the number of the first of these
pub record AreRoomy (first : ℕ) (routes : List ℕ) (slots : List Slot) : Type 0 where
  pub room : (at : ℕ) (slot : Slot) → slice_get slots at ≡ Some slot → count_by (is_route (first + at)) routes ≤ slot.waiting.room
