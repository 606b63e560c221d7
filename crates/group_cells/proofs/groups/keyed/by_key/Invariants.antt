use Rattle.std.proofs.Common.{◌≡◌, ◌++◌, length}
use Rattle.std.specs.Vec.Iter.{into_iter_items}
use Rattle.group_cells.specs.Commits.{elements_keyed}
use Rattle.group_cells.specs.KeyLists.{all_listed, listed}
use Rattle.group_cells.specs.declared.groups.keyed.GroupKey.{GroupKey}
use Rattle.group_cells.proofs.groups.keyed.by_key.Given as goal

abbrev pub invariant-loop-arrival : goal.invariant-loop-arrival
invariant-loop-arrival l = record {
  whole : l.fn.arrivals ≡ l.yielded ++ into_iter_items l.arrival-iterator;
  lists : (q : GroupKey) → listed l.lists q ≡ elements_keyed q.node q.key l.yielded;
  count : all_listed l.lists ≡ length l.yielded;
}
