use Rattle.std.proofs.Common.{◌≡◌, [], length, map, take}
use Rattle.stateful_core.specs.Least.{AreLeast, tree_hold}
use Rattle.stateful_core.proofs.holding.lower_trees.Given as goal

abbrev pub invariant-loop-tree : goal.invariant-loop-tree
invariant-loop-tree l = record {
  least : AreLeast l.initial.least [] → AreLeast l.least (map tree_hold (take l.tree-index l.trees));
  sized : length l.least ≡ length l.initial.least;
}
