use Rattle.std.proofs.Common.{length}
use Rattle.plain_model.proofs.Runs.{IsGrouped}
use Rattle.plain_model.proofs.grouping.panes_of.Given as goal

-- what stands before the rest is grouped
abbrev pub invariant-loop-first : goal.invariant-loop-first
invariant-loop-first l = IsGrouped l.sorted l.rest l.panes.items

abbrev pub decreases-loop-first : goal.decreases-loop-first
decreases-loop-first l = length l.rest
