use Rattle.pipeline_graph.proofs.NodeStrategies.{no_sessions}
use Rattle.pipeline_graph.proofs.laws.stateful_nodes_have_no_sessions.Goals as goal

pub returns : goal.returns
returns c = no_sessions
