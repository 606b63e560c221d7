use Rattle.group_cells.proofs.KeptGaps.{gaps_stay}
use Rattle.group_cells.proofs.laws.rounds_keep_gaps.Goals as goal

pub returns : goal.returns
returns c = gaps_stay
