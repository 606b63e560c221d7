use Rattle.pipeline_graph.proofs.Unrefused.{IsCheckedTo}
use Rattle.pipeline_graph.proofs.checking.check_nodes.Given as goal

abbrev pub invariant-loop-number : goal.invariant-loop-number
invariant-loop-number l = IsCheckedTo l.number l.nodes l.facts l.files
