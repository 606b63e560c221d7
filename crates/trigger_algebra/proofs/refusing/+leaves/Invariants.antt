use Rattle.std.proofs.Common.{◌≡◌, ◌+◌, length, take}
use Rattle.std.specs.List.{flat_map}
use Rattle.trigger_algebra.specs.Refusing.{counts_of}
use Rattle.trigger_algebra.proofs.refusing.+leaves.Given as goal

abbrev pub invariant-all_leaves_left-loop-tree : goal.invariant-all_leaves_left-loop-tree
invariant-all_leaves_left-loop-tree l = l.left + length (flat_map counts_of (take l.tree-index l.trees)) ≡ l.initial.left
