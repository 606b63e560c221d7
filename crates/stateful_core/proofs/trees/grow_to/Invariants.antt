use Rattle.std.proofs.Common.{◌≡◌, ◌≤◌, ◌+◌, ◌-◌, ℕ, length}
use Rattle.stateful_core.specs.Trees.{entry_at}
use Rattle.stateful_core.proofs.trees.grow_to.Given as goal

abbrev pub invariant-loop-marks : goal.invariant-loop-marks
invariant-loop-marks l = record {
  entries : (i : ℕ) → entry_at l.marks i ≡ entry_at l.initial.marks i;
  long : length l.initial.marks ≤ length l.marks;
}

abbrev pub decreases-loop-marks : goal.decreases-loop-marks
decreases-loop-marks l = (l.at + 1) - length l.marks
