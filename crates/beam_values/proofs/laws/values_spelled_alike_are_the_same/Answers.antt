use Rattle.beam_values.proofs.Storable.{values_same}
use Rattle.beam_values.proofs.laws.values_spelled_alike_are_the_same.Goals as goal

pub returns : goal.returns
returns c = values_same c.args.a.now c.args.b.now
