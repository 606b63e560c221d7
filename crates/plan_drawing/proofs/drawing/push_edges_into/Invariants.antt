use Rattle.std.proofs.Common.{◌≡◌, ◌++◌, drop}
use Rattle.std.specs.List.{flat_map}
use Rattle.plan_drawing.specs.Drawing.{edge_of}
use Rattle.plan_drawing.proofs.drawing.push_edges_into.Given as goal

-- what is written and what is left are all edges into the node
abbrev pub invariant-loop-input : goal.invariant-loop-input
invariant-loop-input l =
    l.out ++ flat_map (edge_of l.number) (drop l.input-index l.inputs) ≡ l.fn.out ++ flat_map (edge_of l.number) l.inputs
