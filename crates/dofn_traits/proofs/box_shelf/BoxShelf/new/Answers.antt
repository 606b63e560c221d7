use Rattle.std.proofs.Common.{subst}
use Rattle.dofn_traits.specs.Shelves.{HasEach}
use Rattle.dofn_traits.proofs.box_shelf.BoxShelf.new.Goals as goal

pub returns-clause-complete : goal.returns-clause-complete
returns-clause-complete g c = (
  subst (HasEach g.D.DoFn.work) c.as_slice.ensures c.in-Some.ensures.complete,
  subst (HasEach g.S.SplittableFn.work) c.as_slice-2.ensures c.in-Some-split_places.ensures.complete,
  subst (HasEach g.T.StatefulFn.work) c.as_slice-3.ensures c.in-Some-state_places.ensures.complete,
)
