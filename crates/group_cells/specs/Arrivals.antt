-- Arrivals one by one among the cells of all Groups.
use Rattle.std.specs.Prelude.{◌≡◌, ℕ, Bool, true, false, ◌&&◌, if◌then◌else◌, List, [], ◌∷◌, fold}
use Rattle.std.specs.List.{filter}
use Rattle.beam_values.specs.Grouping.{key_of}
use Rattle.beam_values.specs.Intervals.{Interval}
use Rattle.beam_values.specs.Nodes.{is_group}
use Rattle.beam_values.specs.declared.arrival.Arrival.{Arrival}
use Rattle.beam_values.specs.declared.cell.Cell.{Cell}
use Rattle.beam_values.specs.declared.cell.Entry.{Entry}
use Rattle.beam_values.specs.declared.marks.StageMarks.{StageMarks}
use Rattle.beam_values.specs.declared.plan.Plan.{Plan}
use Rattle.beam_values.specs.declared.value.Value.{Value}
use Rattle.beam_model.specs.Panes.{rules_of, is_cell_at_key}
use Rattle.cell_index.specs.Places.{is_cell_of}
use Rattle.group_cells.specs.Commits.{is_taken}
use Rattle.group_cells.specs.Placing.{with_entry, fresh_cell, is_standing}
use Rattle.group_cells.specs.Rounds.{entry_of}

-- Where windows don't merge, the cell of the window takes the entry; where there is none, a new one behind the others does.
abbrev pub arrived : ℕ → Value → Interval → Entry → List Cell → List Cell
arrived node key span entry [] = fresh_cell node key span (entry ∷ []) ∷ []
arrived node key span entry (cell ∷ cells) =
    if is_cell_of node key span cell then with_entry entry cell ∷ cells else cell ∷ arrived node key span entry cells

-- an arrival in time at a Group whose windows don't merge; all others change nothing here
abbrev pub with_arrival : Plan → List StageMarks → ℕ → List Cell → Arrival → List Cell
with_arrival plan before c cells arrival =
    if is_taken plan before arrival
    then (if (rules_of plan arrival.node).merges then cells
    else arrived arrival.node (key_of arrival.element) arrival.element.span (entry_of c arrival.element) cells)
    else cells

abbrev pub with_arrivals : Plan → List StageMarks → ℕ → List Cell → List Arrival → List Cell
with_arrivals plan before c cells arrivals = fold (with_arrival plan before c) cells arrivals

-- an arrival in time at a Group whose windows merge
abbrev pub merging : Plan → List StageMarks → Arrival → Bool
merging plan before arrival = is_taken plan before arrival && (rules_of plan arrival.node).merges

-- cells of one node and key, all of which stand
abbrev pub AreOwn : ℕ → Value → List Cell → Type 0
AreOwn n k [] = Unit {0}
AreOwn n k (cell ∷ cells) = (is_cell_at_key n k cell ≡ true) × (is_standing cell.merged_into ≡ true) × AreOwn n k cells

-- where windows don't merge, each stands
pub record UnmergedStand (plan : Plan) (cells : List Cell) : Type 0 where
  pub each : (node : ℕ) (key : Value) → is_group plan node ≡ true → (rules_of plan node).merges ≡ false → AreOwn node key (filter (is_cell_at_key node key) cells)
