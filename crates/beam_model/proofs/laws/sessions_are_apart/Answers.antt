use Rattle.beam_model.proofs.Sessions.{sessions_one_or_apart}
use Rattle.beam_model.proofs.laws.sessions_are_apart.Goals as goal

pub returns : goal.returns
returns c = sessions_one_or_apart
