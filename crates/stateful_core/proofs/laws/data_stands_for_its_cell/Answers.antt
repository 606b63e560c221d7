use Rattle.stateful_core.proofs.DataSteps.{data_back, data_formed}
use Rattle.stateful_core.proofs.laws.data_stands_for_its_cell.Goals as goal

pub returns-clause-formed : goal.returns-clause-formed
returns-clause-formed c = data_formed

pub returns-clause-back : goal.returns-clause-back
returns-clause-back c = data_back
