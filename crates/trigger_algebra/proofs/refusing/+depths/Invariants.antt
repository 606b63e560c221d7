use Rattle.std.proofs.Common.{◌≡◌, true, nat_le, take}
use Rattle.std.specs.List.{list_all}
use Rattle.trigger_algebra.specs.Refusing.{depth}
use Rattle.trigger_algebra.proofs.refusing.+depths.Given as goal

abbrev pub invariant-are_within_depth-loop-tree : goal.invariant-are_within_depth-loop-tree
invariant-are_within_depth-loop-tree l = list_all (λ tree. nat_le (depth tree) l.most) (take l.tree-index l.trees) ≡ true
