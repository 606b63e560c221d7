use Rattle.beam_model.proofs.Barriers.{outputs_below}
use Rattle.beam_model.proofs.laws.outputs_end_below_their_node.Goals as goal

pub returns : goal.returns
returns c = outputs_below
