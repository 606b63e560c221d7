use Rattle.beam_model.proofs.Mergings.{mergings_agree}
use Rattle.beam_model.proofs.laws.mergings_agree.Goals as goal

pub returns : goal.returns
returns c = mergings_agree
