use Rattle.beam_model.proofs.Outputs.{emitted_keep}
use Rattle.beam_model.proofs.laws.functions_keep_window_and_pane.Goals as goal

pub returns : goal.returns
returns c = emitted_keep
