use Rattle.plan_reader.proofs.Placed.{AreReadTo}
use Rattle.plan_reader.proofs.placing.plan_nodes.Given as goal

abbrev pub invariant-loop-node : goal.invariant-loop-node
invariant-loop-node l = AreReadTo l.places.items l.nodes l.node-index l.read.items
