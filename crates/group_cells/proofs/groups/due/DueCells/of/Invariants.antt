use Rattle.std.proofs.Common.{◌≡◌, [], take}
use Rattle.group_cells.specs.Due.{IsDueOf}
use Rattle.group_cells.proofs.groups.due.DueCells.of.Given as goal

abbrev pub invariant-loop-place : goal.invariant-loop-place
invariant-loop-place l = IsDueOf l.plan l.due (take l.place l.cells) × (l.due.moved.items ≡ [])
