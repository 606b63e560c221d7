use Rattle.split_core.proofs.Cutting.{held_at_first}
use Rattle.split_core.proofs.laws.nothing_is_held_at_first.Goals as goal

pub returns : goal.returns
returns c = held_at_first
