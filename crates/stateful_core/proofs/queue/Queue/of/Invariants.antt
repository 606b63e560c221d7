use Rattle.std.proofs.Common.{◌≡◌, ◌++◌}
use Rattle.std.specs.Vec.Iter.{into_iter_items}
use Rattle.stateful_core.proofs.queue.Queue.of.Given as goal

abbrev pub invariant-loop-waiting : goal.invariant-loop-waiting
invariant-loop-waiting l = record {
  whole : l.fn.elements ≡ l.yielded ++ into_iter_items l.waiting-iterator;
  items : l.queue.items ≡ l.yielded;
}
