use Rattle.std.proofs.Common.{◌≡◌, ◌++◌, map}
use Rattle.std.specs.Vec.Iter.{into_iter_items}
use Rattle.group_cells.specs.KnownWindows.{opens, AreKnown}
use Rattle.group_cells.specs.Plain.{put_all_at}
use Rattle.group_cells.specs.Rounds.{entry_of}
use Rattle.group_cells.specs.Undoing.{AreOfCommit}
use Rattle.group_cells.proofs.groups.draft.Draft.put_all.Given as goal

abbrev pub invariant-loop-element : goal.invariant-loop-element
invariant-loop-element l = record {
  whole : l.fn.own ≡ l.yielded ++ into_iter_items l.element-iterator;
  cells : l.self.cells ≡ put_all_at l.rules l.key.node l.key.key (map (entry_of l.commit) l.yielded) l.fn.self.cells;
  known : AreKnown l.before (opens l.rules l.before l.key.node l.key.key l.self.cells) l.known;
  same : AreOfCommit l.fn.self l.self;
}
