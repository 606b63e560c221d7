use Rattle.std.proofs.Common.{◌-◌, length}
use Rattle.combine_views.proofs.passing.+at_group.Given as goal

abbrev pub decreases-at_group : goal.decreases-at_group
decreases-at_group l = length l.graph.now.nodes - l.from
