use Rattle.std.proofs.Common.{◌∷◌, [], ◌++◌, subst, sym, Option, Some, None}
use Rattle.stateful_core.specs.Trees.{IsBestAmong}
use Rattle.stateful_core.specs.declared.place.Place.{Place}
use Rattle.stateful_core.proofs.FirstOfTrees.{merged}
use Rattle.stateful_core.proofs.trees.or_first_of.Goals as goal

pub returns-in-Some : goal.returns-in-Some
returns-in-Some c = λ trees cells h before.
    subst (λ (o : Option Place). IsBestAmong (trees ++ c.args.tree.now ∷ []) c.args.marks.now cells o) (sym c.sooner.ensures)
    (merged trees c.args.tree.now c.args.marks.now cells c.args.best (Some c.in-Some.place) before (c.in-Some.ensures cells h))

pub returns-in-None : goal.returns-in-None
returns-in-None c = λ trees cells h before. merged trees c.args.tree.now c.args.marks.now cells c.args.best None before (c.in-None.ensures cells h)
