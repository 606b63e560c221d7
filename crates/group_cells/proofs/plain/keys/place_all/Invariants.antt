use Rattle.std.proofs.Common.{◌+◌, ◌≤◌, length}
use Rattle.group_cells.proofs.PlacedInTurn.{AreSoFar}
use Rattle.group_cells.proofs.plain.keys.place_all.Given as goal

abbrev pub invariant-loop-left : goal.invariant-loop-left
invariant-loop-left l = record {
  placed : AreSoFar l.plan l.before l.commit l.fn.taken l.fn.cells.items l.left l.cells.items;
  grown : length l.cells.items + length l.left ≤ length l.fn.cells.items + length l.fn.taken;
}

abbrev pub decreases-loop-left : goal.decreases-loop-left
decreases-loop-left l = length l.left
