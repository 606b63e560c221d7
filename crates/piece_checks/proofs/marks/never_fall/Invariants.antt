use Rattle.piece_checks.proofs.MarkTests.{NeverBelow}
use Rattle.piece_checks.proofs.marks.never_fall.Given as goal

abbrev pub invariant-loop-next : goal.invariant-loop-next
invariant-loop-next l = NeverBelow l.commits l.next
