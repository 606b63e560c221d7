use Rattle.std.proofs.Common.{◌≡◌, map}
use Rattle.beam_values.specs.declared.cell.Pane.{Pane}
use Rattle.book_tests.proofs.book.written.Given as goal

abbrev pub invariant-loop-pane : goal.invariant-loop-pane
invariant-loop-pane l = l.arrivals ≡ map (λ (pane : Pane). record { node = 3; element = pane.element }) l.yielded
