use Rattle.book_core.specs.NextFor.{IsBestOf}
use Rattle.book_core.proofs.working.most_left.Given as goal

abbrev pub invariant-loop-other : goal.invariant-loop-other
invariant-loop-other l = IsBestOf l.slots l.slot l.other l.best
