use Rattle.std.proofs.Common.{◌≡◌, ◌++◌}
use Rattle.std.specs.Vec.Iter.{into_iter_items}
use Rattle.plan_reader.proofs.placing.push_all.Given as goal

abbrev pub invariant-loop-node : goal.invariant-loop-node
invariant-loop-node l = record {
  whole : l.fn.nodes ≡ l.yielded ++ into_iter_items l.node-iterator;
  items : l.read.items ≡ l.fn.read.items ++ l.yielded;
}
