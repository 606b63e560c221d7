use Rattle.std.proofs.Common.{◌≡◌, take}
use Rattle.mark_trees.specs.Halves.{least_of}
use Rattle.mark_trees.proofs.least_tree.least_among.Given as goal

abbrev pub invariant-loop-marks : goal.invariant-loop-marks
invariant-loop-marks l = l.least ≡ least_of (take l.marks-index l.level)
