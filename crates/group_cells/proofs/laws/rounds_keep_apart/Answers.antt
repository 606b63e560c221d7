use Rattle.group_cells.proofs.KeptSane.{apart_kept}
use Rattle.group_cells.proofs.laws.rounds_keep_apart.Goals as goal

pub returns : goal.returns
returns c = apart_kept
