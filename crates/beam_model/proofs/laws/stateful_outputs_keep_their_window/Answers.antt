use Rattle.beam_model.proofs.Outputs.{stepped_keep}
use Rattle.beam_model.proofs.laws.stateful_outputs_keep_their_window.Goals as goal

pub returns : goal.returns
returns c = stepped_keep
