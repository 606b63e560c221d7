use Rattle.std.proofs.Common.{arith}
use Rattle.std.proofs.lemmas.Int.{ints, to_z-of_z}
use Rattle.windowing.proofs.Euclid.{periods_test}
use Rattle.windowing.proofs.strategy.gives_too_many.Goals as goal

pub returns : goal.returns
returns c =
    let f = c.ranges.size in
    simp to_z-of_z (periods_test c.args.size c.args.period _ c.requires.size_in.0 c.requires.period_in.0 (omega (arith, ints)))
