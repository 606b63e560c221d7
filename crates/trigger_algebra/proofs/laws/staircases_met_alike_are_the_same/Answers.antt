use Rattle.trigger_algebra.proofs.OneStaircase.{one_staircase}
use Rattle.trigger_algebra.proofs.laws.staircases_met_alike_are_the_same.Goals as goal

pub returns : goal.returns
returns c = one_staircase
