use Rattle.watermarks.specs.Holds.{hold_at}
use Rattle.group_cells.proofs.FiredInTurn.{AreFiredBelow}
use Rattle.group_cells.proofs.plain.nodes.fire_all.Given as goal

abbrev pub invariant-loop-n : goal.invariant-loop-n
invariant-loop-n l = AreFiredBelow l.plan l.before (hold_at l.holds) l.commit l.fn.cells.items l.n l.cells.items l.marks.items l.fired
