use Rattle.std.proofs.Common.{take, flat_map}
use Rattle.stateful_core.specs.Cells.{timer_hold}
use Rattle.stored_books.specs.Held.{AreHeldOn}
use Rattle.stored_books.proofs.least.hold_set.Given as goal

abbrev pub invariant-loop-held : goal.invariant-loop-held
invariant-loop-held l = AreHeldOn (flat_map (timer_hold l.node) (take l.held-index l.holds)) l.fn.least l.least
