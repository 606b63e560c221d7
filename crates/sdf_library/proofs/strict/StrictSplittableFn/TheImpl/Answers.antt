use Rattle.std.proofs.Common.{refl}
use Rattle.sdf_library.proofs.Strictness.{failure_rose, answer_found, answer_next, answer_unchanged, answer_more, answer_unharmed, answer_unharmed_more}
use Rattle.sdf_library.proofs.strict.StrictSplittableFn.TheImpl.Goals as goal

pub call-tells : goal.call-tells
call-tells g x c = record {
  found = answer_found _ _ _ _ _ _ c.requires.view _ _ _ c.ensures.tells;
  next = answer_next _ _ _ _ _ _ c.requires.view _ _ _ c.ensures.tells;
  unchanged = answer_unchanged _ _ _ _ _ _ c.requires.view _ _ _ c.ensures.tells;
  more = answer_more _ _ _ _ _ _ c.requires.view _ _ _ c.ensures.tells;
  failed = failure_rose _ _ _ c.ensures.counts;
  counts = c.ensures.rises;
  unharmed = λ is_strict. answer_unharmed _ _ _ _ _ _ c.requires.view _ _ _ _ _ c.ensures.tells c.ensures.counts;
  unharmed_more = λ is_strict. answer_unharmed_more _ _ _ _ _ _ c.requires.view _ _ _ _ _ c.ensures.tells c.ensures.counts;
  work = refl;
  strict = refl;
}
