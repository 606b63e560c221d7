use Rattle.group_cells.proofs.KeptSane.{once_kept}
use Rattle.group_cells.proofs.laws.rounds_keep_cells_once.Goals as goal

pub returns : goal.returns
returns c = once_kept
