use Rattle.plan_reader.proofs.Merging.{IsUnmergedTo}
use Rattle.plan_reader.proofs.placing.side_refusal.Given as goal

abbrev pub invariant-loop-number : goal.invariant-loop-number
invariant-loop-number l = IsUnmergedTo l.graph l.nodes l.number l.first
