use Rattle.timer_core.proofs.FirstSoFar.{least_of_first}
use Rattle.timer_core.proofs.timers.Timers.least.Goals as goal

pub returns : goal.returns
returns c = least_of_first c.args.self.now c.in_ok-first.first c.in_ok-first.ensures.first
