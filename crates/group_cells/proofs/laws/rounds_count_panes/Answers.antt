use Rattle.group_cells.proofs.CountedPanes.{panes_counted}
use Rattle.group_cells.proofs.laws.rounds_count_panes.Goals as goal

pub returns : goal.returns
returns c = panes_counted
