use Rattle.stateful_core.specs.Taking.{tried, with_job}
use Rattle.stateful_core.proofs.JobStays.{change_stays, place_stays, turn_stays}
use Rattle.stateful_core.proofs.laws.a_live_job_stays.Goals as goal

pub returns-clause-place : goal.returns-clause-place
returns-clause-place c = place_stays

pub returns-clause-take : goal.returns-clause-take
returns-clause-take c = λ bundle i at cells cell. change_stays (with_job bundle) cells i at cell

pub returns-clause-give_back : goal.returns-clause-give_back
returns-clause-give_back c = λ i at cells cell. change_stays tried cells i at cell

pub returns-clause-job : goal.returns-clause-job
returns-clause-job c = turn_stays
