use Rattle.std.proofs.Common.{◌≡◌, ◌-◌, Some, drop, length}
use Rattle.mark_trees.specs.Halves.{first_due, lowest}
use Rattle.mark_trees.specs.Levels.{lists_of}
use Rattle.mark_trees.proofs.least_tree.first_under.Given as goal

abbrev pub invariant-loop-over : goal.invariant-loop-over
invariant-loop-over l = first_due l.bound (lowest (drop (length l.levels.items - l.over) (lists_of l.levels.items))) ≡ Some l.at
