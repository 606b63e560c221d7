use Rattle.std.proofs.Common.{refl}
use Rattle.dofn_library.proofs.Strictness.{outputs_added, failure_rose, given_unharmed}
use Rattle.dofn_library.proofs.element_work.StrictDoFn.TheImpl.Goals as goal

pub call-tells : goal.call-tells
call-tells g x c = record {
  outputs = outputs_added _ _ _ _ c.ensures.gives;
  failed = failure_rose _ _ _ c.ensures.counts;
  counts = c.ensures.rises;
  unharmed = λ is_strict. given_unharmed _ _ _ _ _ _ c.ensures.gives c.ensures.counts;
  work = refl;
  strict = refl;
}
