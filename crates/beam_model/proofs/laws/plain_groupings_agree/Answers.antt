use Rattle.beam_model.proofs.Agreement.{groupings_agree}
use Rattle.beam_model.proofs.laws.plain_groupings_agree.Goals as goal

pub returns : goal.returns
returns c = groupings_agree
