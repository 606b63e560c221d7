use Rattle.std.proofs.Common.{arith}
use Rattle.std.proofs.lemmas.Int.{ints}
use Rattle.timer_core.proofs.FirstSoFar.{none_due_yet}
use Rattle.timer_core.proofs.timers.Timers.first_due.Goals as goal

pub returns-else-ms-clause-first : goal.returns-else-ms-clause-first
returns-else-ms-clause-first c = none_due_yet c.args.self.now c.in_ok-first.first c.args.mark c.in_ok-first.ensures.first (omega (arith, ints, c.ms.ensures.value, c.ms-2.ensures.value))
