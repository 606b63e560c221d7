use Rattle.std.proofs.Common.{List, take}
use Rattle.stateful_core.specs.Cells.{KeyCell}
use Rattle.stateful_core.specs.Trees.{AreTrees, IsBestAmong}
use Rattle.stateful_core.proofs.trees.next_place.Given as goal

abbrev pub invariant-loop-k : goal.invariant-loop-k
invariant-loop-k l = (cells : List KeyCell) → AreTrees l.trees cells → IsBestAmong (take l.k l.trees) l.marks cells l.best
