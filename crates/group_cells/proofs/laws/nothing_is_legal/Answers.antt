use Rattle.group_cells.proofs.FirstCommit.{nothing_legal}
use Rattle.group_cells.proofs.laws.nothing_is_legal.Goals as goal

pub returns : goal.returns
returns c = nothing_legal
