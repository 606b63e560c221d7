use Rattle.std.proofs.Common.{◌≡◌, false, take}
use Rattle.std.specs.List.{All}
use Rattle.stateful_core.specs.Cells.{is_cell_of}
use Rattle.stateful_core.specs.Seen.{cell_of}
use Rattle.stateful_core.proofs.finding.sought.Given as goal

abbrev pub invariant-loop-at : goal.invariant-loop-at
invariant-loop-at l = All (λ slot. is_cell_of l.node l.key l.span (cell_of slot) ≡ false) (take l.at l.slots)
