use Rattle.std.proofs.Common.{◌≡◌, None, drop}
use Rattle.beam_values.specs.Checked.{are_stairs_after}
use Rattle.pipeline_graph.proofs.bars.are_stairs.Given as goal

-- what is left is a staircase after the bar before it exactly where all bars are one
abbrev pub invariant-loop-bar : goal.invariant-loop-bar
invariant-loop-bar l = are_stairs_after None l.bars ≡ are_stairs_after l.before (drop l.bar-index l.bars)
