use Rattle.beam_model.proofs.Flows.{times_done-cut}
use Rattle.beam_model.proofs.laws.a_cut_range_covers_the_same.Goals as goal

pub returns : goal.returns
returns c = times_done-cut
