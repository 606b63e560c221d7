use Rattle.timer_core.proofs.FirstSoFar.{IsFirstSoFar}
use Rattle.timer_core.proofs.timers.Timers.first.Given as goal

abbrev pub invariant-loop-name : goal.invariant-loop-name
invariant-loop-name l = IsFirstSoFar l.times l.name l.first
