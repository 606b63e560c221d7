use Rattle.std.proofs.Common.{◌≡◌, length}
use Rattle.plan_cases.proofs.bodies.commit_each.Given as goal

-- both bodies stay those of the plan
abbrev pub invariant-loop-coming : goal.invariant-loop-coming
invariant-loop-coming l = record {
  indexed : l.indexed.plan ≡ l.graph;
  plain : l.plain.plan ≡ l.graph;
  marks : length l.marks.items ≡ length l.graph.nodes;
}
