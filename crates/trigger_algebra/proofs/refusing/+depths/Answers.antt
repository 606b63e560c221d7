use Rattle.std.proofs.Common.{◌∙◌, sym, nat_le, arith}
use Rattle.std.proofs.lemmas.Grind.{common_steps}
use Rattle.std.proofs.lemmas.List.Folds.{list_all_at}
use Rattle.trigger_algebra.specs.Refusing.{depth}
use Rattle.trigger_algebra.proofs.Trees.{depths_within}
use Rattle.trigger_algebra.proofs.refusing.+depths.Goals as goal

pub are_within_depth-returns-then-not-is_within_depth : goal.are_within_depth-returns-then-not-is_within_depth
are_within_depth-returns-then-not-is_within_depth t c =
    sym (depths_within c.args.trees.now c.args.most ∙ list_all_at (λ tree. nat_le (depth tree) c.args.most) c.args.trees.now c.loop-tree.tree-index c.tree-item.result c.loop-tree-test.true
    (let h = c.if-not-is_within_depth.true in let e = c.is_within_depth.ensures in let item = c.tree-item.is in cc))

pub are_within_depth-returns : goal.are_within_depth-returns
are_within_depth-returns t c = sym (depths_within c.args.trees.now c.args.most ∙ (let i = c.loop-tree.invariant in grind (arith, common_steps)))
