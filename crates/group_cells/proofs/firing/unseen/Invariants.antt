use Rattle.std.proofs.Common.{◌≡◌, take}
use Rattle.group_cells.specs.Cells.{unseen_in}
use Rattle.group_cells.proofs.firing.unseen.Given as goal

abbrev pub invariant-loop-entry : goal.invariant-loop-entry
invariant-loop-entry l = l.count ≡ unseen_in (take l.entry-index l.entries)
