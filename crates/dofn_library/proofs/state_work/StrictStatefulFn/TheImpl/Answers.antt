use Rattle.std.proofs.Common.{refl}
use Rattle.dofn_library.proofs.Strictness.{step_taken, failure_rose, step_unharmed}
use Rattle.dofn_library.proofs.state_work.StrictStatefulFn.TheImpl.Goals as goal

pub call-tells : goal.call-tells
call-tells g x c = record {
  step = step_taken _ _ _ _ _ _ c.ensures.gives;
  failed = failure_rose _ _ _ c.ensures.counts;
  counts = c.ensures.rises;
  unharmed = λ is_strict. step_unharmed _ _ _ _ _ _ _ _ c.ensures.gives c.ensures.counts;
  work = refl;
  strict = refl;
}
