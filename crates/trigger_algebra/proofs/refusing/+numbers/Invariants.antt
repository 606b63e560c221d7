use Rattle.std.proofs.Common.{◌≡◌, true, take}
use Rattle.std.specs.List.{list_all}
use Rattle.trigger_algebra.specs.Refusing.{are_numbers_within}
use Rattle.trigger_algebra.proofs.refusing.+numbers.Given as goal

abbrev pub invariant-are_all_numbers_within-loop-tree : goal.invariant-are_all_numbers_within-loop-tree
invariant-are_all_numbers_within-loop-tree l = list_all (are_numbers_within l.least l.most) (take l.tree-index l.trees) ≡ true
