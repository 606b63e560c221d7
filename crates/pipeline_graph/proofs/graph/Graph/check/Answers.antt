use Rattle.pipeline_graph.proofs.CheckedPlans.{inputs_within}
use Rattle.pipeline_graph.proofs.graph.Graph.check.Goals as goal

pub index_followers-requires-clause-within : goal.index_followers-requires-clause-within
index_followers-requires-clause-within c = rw c.as_slice.ensures (inputs_within c.args.plan c.in_ok-facts.ensures.checked)
