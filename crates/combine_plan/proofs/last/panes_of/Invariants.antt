use Rattle.std.proofs.Common.{◌≡◌, Some, map, take}
use Rattle.combine_laws.specs.Lasting.{combined_element}
use Rattle.combine_plan.specs.Lasting.{elements_of}
use Rattle.combine_plan.proofs.last.panes_of.Given as goal

abbrev pub invariant-loop-row : goal.invariant-loop-row
invariant-loop-row l = map combined_element (take l.row-index l.rows) ≡ map Some (elements_of l.panes)
