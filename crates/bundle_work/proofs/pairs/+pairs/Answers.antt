use Rattle.std.proofs.Common.{sym, ◌∙◌}
use Rattle.bundle_work.specs.Pairs.{AcceptsPair, ChangesPair}
use Rattle.bundle_work.proofs.Halves.{each_cut, both_cut}
use Rattle.bundle_work.proofs.pairs.+pairs.Goals as goal

pub each_pair-beside-requires-clause-accepts : goal.each_pair-beside-requires-clause-accepts
each_pair-beside-requires-clause-accepts g t c κs within = (both_cut (AcceptsPair g.J.Fn c.args.job.now) _ _ _ _ _ _ c.split_at_mut-kits.ensures.value c.split_at_mut-seats.ensures.value (c.split_at_mut-kits.ensures.front_len ∙ sym c.split_at_mut-seats.ensures.front_len) c.requires.accepts).0

pub each_pair-beside-requires-clause-other_accepts : goal.each_pair-beside-requires-clause-other_accepts
each_pair-beside-requires-clause-other_accepts g t c κs within = (both_cut (AcceptsPair g.J.Fn c.args.job.now) _ _ _ _ _ _ c.split_at_mut-kits.ensures.value c.split_at_mut-seats.ensures.value (c.split_at_mut-kits.ensures.front_len ∙ sym c.split_at_mut-seats.ensures.front_len) c.requires.accepts).1

pub each_pair-returns : goal.each_pair-returns
each_pair-returns g t c = each_cut (ChangesPair g.J.Fn c.args.job.now) _ _ _ _ _ _ _ _ _ _ c.split_at_mut-kits.ensures.value c.split_at_mut-seats.ensures.value c.beside.ensures.here c.beside.ensures.there
