use Rattle.stateful_core.proofs.LeftAs.{take_leaves, give_back_leaves}
use Rattle.stateful_core.proofs.laws.takes_and_fails_leave_what_came.Goals as goal

pub returns-clause-take : goal.returns-clause-take
returns-clause-take c = take_leaves

pub returns-clause-give_back : goal.returns-clause-give_back
returns-clause-give_back c = give_back_leaves
