use Rattle.group_cells.proofs.KeptSane.{sane_kept}
use Rattle.group_cells.proofs.laws.rounds_keep_cells_sane.Goals as goal

pub returns : goal.returns
returns c = sane_kept
