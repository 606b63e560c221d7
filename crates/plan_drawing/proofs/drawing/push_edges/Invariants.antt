use Rattle.std.proofs.Common.{◌≡◌, ◌++◌, drop}
use Rattle.plan_drawing.specs.Drawing.{edges}
use Rattle.plan_drawing.proofs.Rest.{edges_from}
use Rattle.plan_drawing.proofs.drawing.push_edges.Given as goal

-- what is written and what is left are all edges
abbrev pub invariant-loop-i : goal.invariant-loop-i
invariant-loop-i l = l.out ++ edges_from l.i (drop l.i l.nodes) ≡ l.fn.out ++ edges l.nodes
