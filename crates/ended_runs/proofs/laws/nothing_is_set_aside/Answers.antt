use Rattle.ended_runs.proofs.DeadLetters.{none_dead}
use Rattle.ended_runs.proofs.laws.nothing_is_set_aside.Goals as goal

pub returns : goal.returns
returns c told b o reached never of = none_dead b o (c.attempts_are_counted.ensures.aside told b reached) never of
