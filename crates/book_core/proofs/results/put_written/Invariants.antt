use Rattle.std.proofs.Common.{◌≡◌, ◌+◌, ◌≤◌, ◌++◌, length}
use Rattle.std.specs.List.{filter}
use Rattle.std.specs.Vec.Iter.{into_iter_items}
use Rattle.beam_values.specs.Nodes.{is_write}
use Rattle.book_core.proofs.results.put_written.Given as goal

abbrev pub invariant-loop-arrival : goal.invariant-loop-arrival
invariant-loop-arrival l = record {
  whole : l.fn.left ≡ l.yielded ++ into_iter_items l.arrival-iterator;
  items : l.written.items ≡ l.initial.written.items ++ filter (λ arrival. is_write l.plan arrival.node) l.yielded;
  room : length l.fn.left ≤ l.written.room + length l.yielded;
}
