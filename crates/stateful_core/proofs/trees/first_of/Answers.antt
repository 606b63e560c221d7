use Rattle.std.proofs.Common.{◌∷◌, [], Option, sym, subst, ◌∙◌}
use Rattle.stateful_core.specs.Trees.{IsBestAmong}
use Rattle.stateful_core.specs.declared.place.Place.{Place}
use Rattle.stateful_core.proofs.FirstOfTrees.{alone_among, alone_there, is_first, is_none}
use Rattle.stateful_core.proofs.trees.first_of.Goals as goal

pub returns-in_err-at : goal.returns-in_err-at
returns-in_err-at c = λ cells h.
    let tree = c.args.tree.now in
    subst (λ (o : Option Place). IsBestAmong (tree ∷ []) c.args.marks.now cells o) (sym c.from_residual.ensures)
    (is_none tree.node tree.marks cells c.args.marks.now c.mark_in.result c.bound.result c.mark_in.ensures c.bound.ensures.within c.bound.ensures.is h (tree ∷ [])
    (sym c.first_due.ensures ∙ c.in_err-at.was) (alone_among tree))

pub returns : goal.returns
returns c = λ cells h.
    let tree = c.args.tree.now in
    is_first tree.node tree.marks cells c.args.marks.now c.mark_in.result c.bound.result c.mark_in.ensures c.bound.ensures.within c.bound.ensures.is h c.in_ok-at.at (tree ∷ [])
    (sym c.first_due.ensures ∙ c.in_ok-at.was) (alone_there tree) (alone_among tree)
