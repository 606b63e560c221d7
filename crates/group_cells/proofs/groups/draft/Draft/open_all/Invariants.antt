use Rattle.std.proofs.Common.{◌≡◌, map, take}
use Rattle.group_cells.specs.KnownWindows.{opens, AreKnown}
use Rattle.group_cells.specs.Plain.{opened_all_at, opening_of}
use Rattle.group_cells.specs.Undoing.{AreOfCommit}
use Rattle.group_cells.proofs.groups.draft.Draft.open_all.Given as goal

abbrev pub invariant-loop-span : goal.invariant-loop-span
invariant-loop-span l = record {
  cells : l.self.cells ≡ opened_all_at l.rules l.before l.key.node (map (opening_of l.key.key) (take l.span-index l.windows)) l.fn.self.cells;
  known : AreKnown l.before (opens l.rules l.before l.key.node l.key.key l.self.cells) l.known;
  same : AreOfCommit l.fn.self l.self;
}
