use Rattle.stateful_core.proofs.LeftOver.{prepared_left, placed_left}
use Rattle.stateful_core.specs.Placing.{finish}
use Rattle.stateful_core.proofs.laws.what_comes_to_other_nodes_may_be_left_out.Goals as goal

pub returns-clause-prepared : goal.returns-clause-prepared
returns-clause-prepared c = prepared_left

pub returns-clause-placed : goal.returns-clause-placed
returns-clause-placed c = λ plan passes keeps before done arrivals cells. placed_left plan passes keeps before arrivals (finish before done cells)
