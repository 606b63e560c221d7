use Rattle.group_cells.proofs.KeptKeys.{keys_kept}
use Rattle.group_cells.proofs.laws.rounds_keep_keys.Goals as goal

pub returns : goal.returns
returns c = keys_kept
