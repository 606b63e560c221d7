use Rattle.std.proofs.Common.{◌≡◌, vec_len}
use Rattle.cell_index.specs.Indexes.{IsIndexOf}
use Rattle.group_cells.specs.Undoing.{undone_all}
use Rattle.group_cells.proofs.groups.draft.Tracked.undo_all.Given as goal

abbrev pub invariant-loop-change : goal.invariant-loop-change
invariant-loop-change l = record {
  cells : undone_all l.self.changes.items l.self.cells.items ≡ undone_all l.fn.self.changes.items l.fn.self.cells.items;
  index : IsIndexOf l.self.index l.self.cells.items;
  due : l.self.due ≡ l.fn.self.due;
}

abbrev pub decreases-loop-change : goal.decreases-loop-change
decreases-loop-change l = vec_len l.self.changes
