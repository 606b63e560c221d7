use Rattle.beam_model.proofs.Positions.{next_rises}
use Rattle.beam_model.proofs.laws.next_positions_rise.Goals as goal

pub returns : goal.returns
returns c = next_rises
