use Rattle.std.proofs.Common.{◌≡◌, ◌+◌, ◌≤◌, ◌++◌, length}
use Rattle.std.specs.Vec.Iter.{into_iter_items}
use Rattle.book_core.proofs.results.put_panes.Given as goal

abbrev pub invariant-loop-pane : goal.invariant-loop-pane
invariant-loop-pane l = record {
  whole : l.fn.fired ≡ l.yielded ++ into_iter_items l.pane-iterator;
  items : l.panes.items ≡ l.initial.panes.items ++ l.yielded;
  room : length l.fn.fired ≤ l.panes.room + length l.yielded;
}
