use Rattle.std.proofs.Common.{◌≡◌, ℕ, ◌+◌, ◌≤◌, ◌++◌, List, length, replicate, Contains}
use Rattle.beam_model.specs.Holds.{Hold}
use Rattle.book_core.specs.Indexes.{marks_in, room_in, AreHeldIn}
use Rattle.book_core.proofs.held.hold_again.Given as goal

abbrev pub invariant-loop-time : goal.invariant-loop-time
invariant-loop-time l = record {
  held : (holds : List Hold) → AreHeldIn l.initial.held holds → AreHeldIn l.held (replicate l._time (record { node = l.node; mark = l.mark }) ++ holds);
  among : Contains (marks_in l.held l.node) l.mark;
  longer : length (marks_in l.held l.node) ≡ length (marks_in l.initial.held l.node) + l._time;
  kept : (n : ℕ) → room_in l.initial.held n ≤ room_in l.held n;
}
