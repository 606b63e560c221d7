use Rattle.std.proofs.Common.{pos, ◌+ℤ◌, ◌-ℤ◌}
use Rattle.beam_values.specs.Windows.{or_zero}
use Rattle.windowing.proofs.UnderWay.{IsUnderWay}
use Rattle.windowing.proofs.assignment.push_up_to.Given as goal

abbrev pub invariant-loop-start : goal.invariant-loop-start
invariant-loop-start l = IsUnderWay l.fn.size l.fn.period l.fn.time l.fn.first l.initial.out l.out l.start

abbrev pub decreases-loop-start : goal.decreases-loop-start
decreases-loop-start l = or_zero ((l.fn.time +ℤ pos 1) -ℤ l.start)
