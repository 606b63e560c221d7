use Rattle.pipeline_graph.proofs.NodeStrategies.{allowed_strategies, inputs_agree}
use Rattle.pipeline_graph.proofs.laws.nodes_take_elements_of_their_strategy.Goals as goal

pub returns : goal.returns
returns c = record { inputs = inputs_agree; allowed = allowed_strategies }
