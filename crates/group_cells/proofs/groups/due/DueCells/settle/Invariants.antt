use Rattle.std.proofs.Common.{vec_len}
use Rattle.group_cells.specs.Due.{IsDueOf}
use Rattle.group_cells.proofs.groups.due.DueCells.settle.Given as goal

abbrev pub invariant-loop-key : goal.invariant-loop-key
invariant-loop-key l = IsDueOf l.plan l.self l.cells

abbrev pub decreases-loop-key : goal.decreases-loop-key
decreases-loop-key l = vec_len l.self.moved
