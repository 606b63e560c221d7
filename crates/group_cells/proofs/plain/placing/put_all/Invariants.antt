use Rattle.std.proofs.Common.{◌≡◌, ◌++◌, map}
use Rattle.std.specs.Vec.Iter.{into_iter_items}
use Rattle.group_cells.specs.Plain.{put_all_at}
use Rattle.group_cells.specs.Rounds.{entry_of}
use Rattle.group_cells.proofs.plain.placing.put_all.Given as goal

abbrev pub invariant-loop-element : goal.invariant-loop-element
invariant-loop-element l = record {
  whole : l.fn.own ≡ l.yielded ++ into_iter_items l.element-iterator;
  cells : l.cells.items ≡ put_all_at l.rules l.node l.key (map (entry_of l.commit) l.yielded) l.fn.cells.items;
}
