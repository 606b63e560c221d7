use Rattle.std.proofs.Common.{◌≡◌, take}
use Rattle.stateful_core.specs.Data.{timer_holds_of}
use Rattle.stored_books.proofs.least.timer_holds.Given as goal

abbrev pub invariant-loop-set : goal.invariant-loop-set
invariant-loop-set l = l.holds ≡ timer_holds_of (take l.set-index l.timers)
