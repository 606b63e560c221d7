use Rattle.std.proofs.Common.{◌≡◌, ◌-◌}
use Rattle.mark_trees.specs.Halves.{halvings}
use Rattle.mark_trees.proofs.levels.is_full.Given as goal

abbrev pub invariant-loop-level : goal.invariant-loop-level
invariant-loop-level l = halvings l.at (l.levels - l._level) ≡ halvings l.fn.at (l.levels - 1)
