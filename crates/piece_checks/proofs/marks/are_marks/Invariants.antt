use Rattle.watermarks.specs.Holds.{hold_at}
use Rattle.watermarks.proofs.NodeMarks.{AreMarksBelow}
use Rattle.piece_checks.proofs.marks.are_marks.Given as goal

-- the marks of the nodes so far are right
abbrev pub invariant-loop-n : goal.invariant-loop-n
invariant-loop-n l = AreMarksBelow l.plan (hold_at l.holds) l.marks l.n
