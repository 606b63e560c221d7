use Rattle.beam_command.proofs.DrillTexts.{one_text}
use Rattle.beam_command.proofs.laws.a_drill_prints_one_text.Goals as goal

pub returns : goal.returns
returns c = one_text c.plain_grouping_at_a_barrier_is_one_bag.ensures
