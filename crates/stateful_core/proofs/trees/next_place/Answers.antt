use Rattle.std.proofs.Common.{arith, List, ◌∷◌, [], ◌++◌, ◌<◌, subst, sym, ap, ◌∙◌, take, length}
use Rattle.std.proofs.lemmas.List.{take_all, take_more}
use Rattle.stateful_core.specs.Trees.{IsBestAmong}
use Rattle.stateful_core.specs.declared.node_tree.NodeTree.{NodeTree}
use Rattle.stateful_core.proofs.FirstOfTrees.{best_of_none, next_of_all, tree_there}
use Rattle.stateful_core.proofs.trees.next_place.Goals as goal

pub loop-k-init : goal.loop-k-init
loop-k-init c = λ cells h. best_of_none c.args.marks.now cells

pub loop-k-preserved : goal.loop-k-preserved
loop-k-preserved c = λ cells h.
    let trees = c.args.trees.now in
    let k = c.loop-k.k in
    let tree = c.index-trees-k.result in
    let less : c.loop-k.k < length c.args.trees.now = omega (arith, c.loop-k-test.true) in
    subst (λ (l : List NodeTree). IsBestAmong l c.args.marks.now cells c.or_first_of-best.result)
    (ap (λ (t : NodeTree). take k trees ++ t ∷ []) c.index-trees-k.is ∙ sym (take_more trees k tree less))
    (c.or_first_of-best.ensures (take k trees) cells (h.each k tree (tree_there trees k tree less c.index-trees-k.is)) (c.loop-k.invariant cells h))

pub returns : goal.returns
returns c = λ cells h.
    next_of_all c.args.trees.now c.args.marks.now cells c.loop-k.best h
    (subst (λ (l : List NodeTree). IsBestAmong l c.args.marks.now cells c.loop-k.best) (take_all c.loop-k.k c.args.trees.now (omega (arith, c.loop-k-test.false))) (c.loop-k.invariant cells h))
