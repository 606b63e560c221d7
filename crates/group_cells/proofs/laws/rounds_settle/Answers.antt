use Rattle.group_cells.proofs.Settling.{settled_after}
use Rattle.group_cells.proofs.laws.rounds_settle.Goals as goal

pub returns : goal.returns
returns c = settled_after
