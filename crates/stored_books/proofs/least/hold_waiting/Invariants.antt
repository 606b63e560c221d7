use Rattle.std.proofs.Common.{take, flat_map}
use Rattle.stored_books.specs.Held.{own_hold}
use Rattle.stored_books.specs.Held.{AreHeldOn}
use Rattle.stored_books.proofs.least.hold_waiting.Given as goal

abbrev pub invariant-loop-one : goal.invariant-loop-one
invariant-loop-one l = AreHeldOn (flat_map (own_hold l.panes) (take l.one-index l.waiting)) l.fn.least l.least
