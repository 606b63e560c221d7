use Rattle.group_cells.proofs.AllKeys.{keep_legal}
use Rattle.group_cells.proofs.laws.rounds_keep_what_is_legal.Goals as goal

pub returns : goal.returns
returns c = keep_legal
