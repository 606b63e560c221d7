use Rattle.std.proofs.Common.{◌≡◌, ◌≤◌, length, take}
use Rattle.group_cells.specs.Cells.{unseen_in}
use Rattle.group_cells.proofs.firing.first_unseen.Given as goal

abbrev pub invariant-loop-left : goal.invariant-loop-left
invariant-loop-left l = record {
  within : l.at ≤ length l.entries;
  unfound : l.left ≡ unseen_in (take l.at l.entries);
}

abbrev pub decreases-loop-left : goal.decreases-loop-left
decreases-loop-left l = l.at
