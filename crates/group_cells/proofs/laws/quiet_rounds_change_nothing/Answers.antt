use Rattle.group_cells.proofs.KeptSane.{quiet_kept}
use Rattle.group_cells.proofs.laws.quiet_rounds_change_nothing.Goals as goal

pub returns : goal.returns
returns c = quiet_kept
