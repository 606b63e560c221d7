use Rattle.std.proofs.Common.{take, map}
use Rattle.stateful_core.specs.Cells.{element_hold}
use Rattle.stored_books.specs.Held.{AreHeldOn}
use Rattle.stored_books.proofs.least.hold_elements.Given as goal

abbrev pub invariant-loop-one : goal.invariant-loop-one
invariant-loop-one l = AreHeldOn (map (element_hold l.node) (take l.one-index l.waiting)) l.fn.least l.least
