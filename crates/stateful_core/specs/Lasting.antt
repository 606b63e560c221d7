-- What is left of key cells, which holds there are, and when there is nothing left.
use Rattle.std.specs.Prelude.{ℕ, ◌+◌, ◌*◌, ℤ, ◌≤ℤ◌, List, map, length, Option, Some, None}
use Rattle.std.specs.List.{All, filter, sum_by}
use Rattle.beam_values.specs.Marks.{marks_at}
use Rattle.beam_values.specs.Nodes.{is_stateful}
use Rattle.beam_values.specs.declared.arrival.Arrival.{Arrival}
use Rattle.beam_values.specs.declared.marks.StageMarks.{StageMarks}
use Rattle.beam_values.specs.declared.plan.Plan.{Plan}
use Rattle.beam_model.specs.Holds.{Hold, arrival_hold}
use Rattle.stateful_core.specs.Cells.{KeyCell}

-- no hold lies below the mark after its node
abbrev pub AreAbove : List StageMarks → List Hold → Type 0
AreAbove before holds = All (λ hold. (marks_at before hold.node).mark_out ≤ℤ hold.mark) holds

abbrev pub one_if_set : Option ℤ → ℕ
one_if_set None = 0
one_if_set (Some time) = 1

-- nine for each element that waits or is worked, and one for each timer that is set
abbrev pub left_of : KeyCell → ℕ
left_of cell = 9 * length cell.waiting + sum_by one_if_set cell.kept.timers

-- the holds of the arrivals at Stateful nodes
abbrev pub arrival_holds : Plan → List StageMarks → List Arrival → List Hold
arrival_holds plan before arrivals = map (arrival_hold before) (filter (λ a. is_stateful plan a.node) arrivals)
