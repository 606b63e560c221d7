use Rattle.beam_model.proofs.Barriers.{chains_end}
use Rattle.beam_model.proofs.laws.chains_end_at_barriers.Goals as goal

pub returns : goal.returns
returns c = chains_end
