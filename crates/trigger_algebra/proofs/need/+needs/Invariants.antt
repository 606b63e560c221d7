use Rattle.std.proofs.Common.{◌≡◌, map, fold, take}
use Rattle.trigger_algebra.specs.declared.need.Need.TheVariants.{Always, Never}
use Rattle.trigger_algebra.specs.Staircases.{greatest, least, need_of}
use Rattle.trigger_algebra.proofs.need.+needs.Given as goal

abbrev pub invariant-greatest_need-loop-tree : goal.invariant-greatest_need-loop-tree
invariant-greatest_need-loop-tree l = l.greatest ≡ fold greatest Always (map (λ tree. need_of tree l.unseen) (take l.tree-index l.trees))

abbrev pub invariant-least_need-loop-tree : goal.invariant-least_need-loop-tree
invariant-least_need-loop-tree l = l.least ≡ fold least Never (map (λ tree. need_of tree l.unseen) (take l.tree-index l.trees))
