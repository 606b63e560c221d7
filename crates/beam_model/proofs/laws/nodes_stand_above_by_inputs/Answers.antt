use Rattle.beam_model.proofs.Above.{above_by_inputs}
use Rattle.beam_model.proofs.laws.nodes_stand_above_by_inputs.Goals as goal

pub returns : goal.returns
returns c = above_by_inputs
