use Rattle.stateful_core.specs.Placing.{finish}
use Rattle.stateful_core.proofs.HoldsKept.{place_above, place_holds_bag}
use Rattle.stateful_core.proofs.WhatIsLeft.{done_lowers}
use Rattle.stateful_core.proofs.laws.holds_and_what_is_left.Goals as goal

pub returns-clause-holds : goal.returns-clause-holds
returns-clause-holds c = place_above

pub returns-clause-added : goal.returns-clause-added
returns-clause-added c = λ plan before done arrivals cells. place_holds_bag plan before arrivals (finish before done cells)

pub returns-clause-left : goal.returns-clause-left
returns-clause-left c = done_lowers
