use Rattle.piece_checks.proofs.MarkTests.{RiseBelow}
use Rattle.piece_checks.proofs.marks.none_falls.Given as goal

abbrev pub invariant-loop-n : goal.invariant-loop-n
invariant-loop-n l = RiseBelow l.before l.after l.n
