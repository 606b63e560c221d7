use Rattle.std.proofs.Common.{◌≡◌, false, take}
use Rattle.std.specs.List.{list_any}
use Rattle.trigger_algebra.specs.Refusing.{has_empty}
use Rattle.trigger_algebra.proofs.refusing.+empties.Given as goal

abbrev pub invariant-have_empty-loop-tree : goal.invariant-have_empty-loop-tree
invariant-have_empty-loop-tree l = list_any has_empty (take l.tree-index l.trees) ≡ false
