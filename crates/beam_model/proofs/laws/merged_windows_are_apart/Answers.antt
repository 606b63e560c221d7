use Rattle.beam_model.proofs.Sessions.{merged_apart}
use Rattle.beam_model.proofs.laws.merged_windows_are_apart.Goals as goal

pub returns : goal.returns
returns c = merged_apart
