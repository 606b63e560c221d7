use Rattle.group_cells.proofs.FirstCommit.{never_longer}
use Rattle.group_cells.proofs.laws.marks_go_on.Goals as goal

pub returns : goal.returns
returns c = never_longer
