use Rattle.std.proofs.Common.{subst, sym}
use Rattle.stateful_core.specs.Trees.{IsTimerDue}
use Rattle.stateful_core.proofs.Entries.{no_timer_due, timer_due}
use Rattle.stateful_core.proofs.trees.first_of_timers.Goals as goal

pub returns-in-Some : goal.returns-in-Some
returns-in-Some c =
    subst (IsTimerDue c.args.timers.now) (sym c.mark_at.ensures.is) (timer_due c.args.timers.now c.in-Some.timer c.in-Some.ensures.first.0 c.mark_at.ensures.within)

pub returns-in-None : goal.returns-in-None
returns-in-None c = no_timer_due c.args.timers.now c.in-None.ensures.first
