use Rattle.std.proofs.Common.{Some, ap, sym, ◌∙◌}
use Rattle.combine_lift.proofs.Folding.{max_folded}
use Rattle.combine_lift.proofs.max_of.MaxOfCombiner.extract.Goals as goal

pub returns : goal.returns
returns c = λ parts stands. ap Some c.value_of.ensures ∙ sym (max_folded c.args.acc.now.greatest c.args.acc.now.count parts stands)
