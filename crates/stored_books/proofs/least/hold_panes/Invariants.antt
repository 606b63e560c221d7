use Rattle.std.proofs.Common.{take, map}
use Rattle.stored_books.specs.Held.{hold_at_node}
use Rattle.stored_books.specs.Held.{AreHeldOn}
use Rattle.stored_books.proofs.least.hold_panes.Given as goal

abbrev pub invariant-loop-waiting : goal.invariant-loop-waiting
invariant-loop-waiting l = AreHeldOn (map (λ waiting. hold_at_node waiting l.node) (take l.waiting-index l.panes)) l.fn.least l.least
