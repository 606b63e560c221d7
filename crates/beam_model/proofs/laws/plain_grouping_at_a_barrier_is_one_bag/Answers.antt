use Rattle.beam_model.proofs.Runs.{plain_at_agree}
use Rattle.beam_model.proofs.laws.plain_grouping_at_a_barrier_is_one_bag.Goals as goal

pub returns : goal.returns
returns c = plain_at_agree
