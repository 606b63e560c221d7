use Rattle.std.proofs.Common.{◌+◌, ◌++◌, sym, subst}
use Rattle.combine_lift.specs.Standing.{IsMaxOf}
use Rattle.combine_lift.proofs.OneMore.{max_merged}
use Rattle.combine_lift.proofs.max_of.MaxOfCombiner.merge.Goals as goal

pub returns-clause-stands : goal.returns-clause-stands
returns-clause-stands c = λ parts others stands also.
    subst (λ greatest. IsMaxOf greatest (c.args.acc.now.count + c.args.other.count) (parts ++ others)) (sym c.greater.ensures)
    (max_merged c.args.acc.now.greatest c.args.other.greatest c.args.acc.now.count c.args.other.count parts others stands also)
