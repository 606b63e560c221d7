use Rattle.std.proofs.Common.{◌≡◌, ◌++◌, drop}
use Rattle.plan_drawing.specs.Drawing.{boxes}
use Rattle.plan_drawing.proofs.Rest.{boxes_from}
use Rattle.plan_drawing.proofs.drawing.push_boxes.Given as goal

-- what is written and what is left are all boxes
abbrev pub invariant-loop-i : goal.invariant-loop-i
invariant-loop-i l = l.out ++ boxes_from l.i (drop l.i l.names) (drop l.i l.nodes) ≡ l.fn.out ++ boxes l.names l.nodes
