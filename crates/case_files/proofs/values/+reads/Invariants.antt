use Rattle.std.proofs.Common.{◌+◌, ◌*◌}
use Rattle.case_files.proofs.values.+reads.Given as goal

abbrev pub decreases-value_within : goal.decreases-value_within
decreases-value_within l = 2 * l.depth

abbrev pub decreases-items_within : goal.decreases-items_within
decreases-items_within l = 2 * l.depth + 1
