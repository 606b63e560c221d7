use Rattle.pipeline_graph.proofs.CheckedPlans.{counted_inputs, node_settings}
use Rattle.pipeline_graph.proofs.laws.nodes_have_inputs_and_settings_of_their_kind.Goals as goal

pub returns : goal.returns
returns c = record { inputs = counted_inputs; settings = node_settings }
