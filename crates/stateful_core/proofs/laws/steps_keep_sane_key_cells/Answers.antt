use Rattle.stateful_core.proofs.SaneSteps.{place_sane, take_sane, give_back_sane}
use Rattle.stateful_core.proofs.laws.steps_keep_sane_key_cells.Goals as goal

pub returns-clause-place : goal.returns-clause-place
returns-clause-place c = place_sane

pub returns-clause-take : goal.returns-clause-take
returns-clause-take c = take_sane

pub returns-clause-give_back : goal.returns-clause-give_back
returns-clause-give_back c = give_back_sane
