use Rattle.combine_laws.proofs.PlainCombining.{combined_plain}
use Rattle.combine_laws.proofs.laws.what_was_combined_is_plain.Goals as goal

pub returns : goal.returns
returns c = combined_plain
