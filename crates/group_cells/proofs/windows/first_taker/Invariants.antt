use Rattle.group_cells.proofs.PlainPlacing.{NoneBefore}
use Rattle.group_cells.proofs.windows.first_taker.Given as goal

abbrev pub invariant-loop-at : goal.invariant-loop-at
invariant-loop-at l = NoneBefore l.rules l.node l.key l.entry l.cells l.at
