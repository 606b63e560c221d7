use Rattle.std.proofs.Common.{rules}
use Rattle.std.proofs.iter.runs.Made.{chains}
use Rattle.combine_lift.proofs.lifting.group_count.Goals as goal

pub returns : goal.returns
returns c = search (rules, chains)
