use Rattle.std.proofs.Common.{◌∙◌, ap}
use Rattle.pipeline_graph.proofs.NodeStrategies.{kept_strategy, known_within}
use Rattle.pipeline_graph.proofs.graph.Graph.strategy.Goals as goal

pub bounds-as_slice-node : goal.bounds-as_slice-node
bounds-as_slice-node c = known_within c.self.inside.plan c.args.self.now c.as_slice.result.now c.args.node c.self.view_is (c.as_slice.ensures ∙ c.self.invariant.known) c.requires

pub returns : goal.returns
returns c =
    ap (λ facts. facts.strategy) c.facts.view_is
    ∙ kept_strategy c.self.inside.plan c.args.self.now c.as_slice.result.now c.args.node c.index-as_slice-node.result c.self.view_is (c.as_slice.ensures ∙ c.self.invariant.known) c.requires c.index-as_slice-node.is
