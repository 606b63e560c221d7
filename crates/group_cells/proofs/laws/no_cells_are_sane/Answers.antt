use Rattle.group_cells.proofs.KeptSane.{none_sane}
use Rattle.group_cells.proofs.laws.no_cells_are_sane.Goals as goal

pub returns : goal.returns
returns c = none_sane
