use Rattle.group_cells.proofs.KeyCells.{all_entries}
use Rattle.group_cells.proofs.laws.rounds_keep_all_entries.Goals as goal

pub returns : goal.returns
returns c = all_entries
