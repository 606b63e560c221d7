use Rattle.group_cells.proofs.KeptSane.{takers_kept}
use Rattle.group_cells.proofs.laws.rounds_keep_takers.Goals as goal

pub returns : goal.returns
returns c = takers_kept
