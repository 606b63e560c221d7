use Rattle.std.proofs.Common.{arith, ◌∷◌, map, subst, take}
use Rattle.stateful_core.specs.Least.{AreLeast, tree_hold}
use Rattle.mark_trees.specs.declared.twin_marks.TwinMarks.{TwinMarks}
use Rattle.stateful_core.proofs.TreeHolds.{trees_more}
use Rattle.stateful_core.proofs.holding.lower_trees.Goals as goal

pub loop-tree-preserved : goal.loop-tree-preserved
loop-tree-preserved c =
    let trees = c.args.trees.now in
    let k = c.loop-tree.tree-index in
    let tree = c.tree-item.result in
    let inv = c.loop-tree.invariant in
    record {
      least = λ h.
          trees_more trees k tree c.lower.new.least (omega (arith, c.loop-tree-test.true)) c.tree-item.is
          (subst (λ (m : TwinMarks). AreLeast c.lower.new.least ((record { node = c.tree-item.result.node; mark = m.hold }) ∷ map tree_hold (take c.loop-tree.tree-index c.args.trees.now))) c.least.ensures
          (c.lower.ensures.least (map tree_hold (take k trees)) (inv.least h)));
      sized = omega (arith, c.lower.ensures.sized, inv.sized);
    }
