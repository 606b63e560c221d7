use Rattle.pipeline_graph.proofs.NodeStrategies.{onward_by_kind, own_strategy}
use Rattle.pipeline_graph.proofs.laws.strategies_follow_kinds.Goals as goal

pub returns : goal.returns
returns c = record { own = own_strategy; onward = onward_by_kind }
