use Rattle.beam_model.proofs.Positions.{between_nothing}
use Rattle.beam_model.proofs.laws.positions_between_give_nothing.Goals as goal

pub returns : goal.returns
returns c = between_nothing
