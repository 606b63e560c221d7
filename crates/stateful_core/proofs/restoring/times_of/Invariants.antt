use Rattle.std.proofs.Common.{◌≡◌, take}
use Rattle.stateful_core.specs.Data.{times_of}
use Rattle.stateful_core.proofs.restoring.times_of.Given as goal

abbrev pub invariant-loop-set : goal.invariant-loop-set
invariant-loop-set l = l.times ≡ times_of (take l.set-index l.timers)
