use Rattle.std.proofs.Common.{sym, arith}
use Rattle.plan_reader.proofs.TreeTurns.{item_less}
use Rattle.plan_reader.proofs.trees.+forms.Goals as goal

pub have_tree_forms-has_tree_form-requires : goal.have_tree_forms-has_tree_form-requires
have_tree_forms-has_tree_form-requires t c =
    let less = item_less c.args.trees.now c.loop-tree.tree-index c.tree-item.result c.loop-tree-test.true (sym c.tree-item.is) in
    let now = c.decreases in
    (omega (arith, less, now), tt)
