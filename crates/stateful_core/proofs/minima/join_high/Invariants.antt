use Rattle.std.proofs.Common.{◌≡◌, ◌≤◌}
use Rattle.std.specs.VecDeque.{deque_capacity, deque_len}
use Rattle.stateful_core.proofs.LowRuns.{AreJoining}
use Rattle.stateful_core.proofs.minima.join_high.Given as goal

abbrev pub invariant-loop-last : goal.invariant-loop-last
invariant-loop-last l = record {
  joining : AreJoining l.hold l.initial.runs.items l.runs.items l.count;
  len : deque_len l.runs ≤ deque_len l.initial.runs;
  capacity : deque_capacity l.runs ≡ deque_capacity l.initial.runs;
}

abbrev pub decreases-loop-last : goal.decreases-loop-last
decreases-loop-last l = deque_len l.runs
