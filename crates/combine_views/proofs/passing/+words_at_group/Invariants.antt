use Rattle.std.proofs.Common.{◌-◌, length}
use Rattle.combine_views.proofs.passing.+words_at_group.Given as goal

abbrev pub decreases-words_at_group : goal.decreases-words_at_group
decreases-words_at_group l = length l.graph.now.nodes - l.from
