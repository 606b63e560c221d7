use Rattle.std.proofs.Common.{sym, arith}
use Rattle.plan_reader.proofs.TreeTurns.{item_less}
use Rattle.plan_reader.proofs.trees.+whens.Goals as goal

pub whens_of-when_of-requires : goal.whens_of-when_of-requires
whens_of-when_of-requires t c =
    let less = item_less c.args.trees.now c.loop-tree.tree-index c.tree-item.result c.loop-tree-test.true (sym c.tree-item.is) in
    let now = c.decreases in
    (omega (arith, less, now), tt)
