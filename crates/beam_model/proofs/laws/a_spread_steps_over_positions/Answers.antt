use Rattle.beam_model.proofs.Positions.{spread_steps}
use Rattle.beam_model.proofs.laws.a_spread_steps_over_positions.Goals as goal

pub returns : goal.returns
returns c = spread_steps
