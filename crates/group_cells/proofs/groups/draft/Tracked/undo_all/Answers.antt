use Rattle.std.proofs.Common.{◌∙◌, ap, sym}
use Rattle.group_cells.specs.Undoing.{undone_all}
use Rattle.group_cells.proofs.Undoing.{undone_more}
use Rattle.group_cells.proofs.groups.draft.Tracked.undo_all.Goals as goal

pub loop-change-preserved : goal.loop-change-preserved
loop-change-preserved c = record {
  cells =
      ap (undone_all c.pop.new.self.items) c.undo.ensures.cells ∙ sym (undone_more c.pop.new.self.items c.in-Some.change c.loop-change.self.cells.items)
      ∙ ap (λ changes. undone_all changes c.loop-change.self.cells.items) (sym c.in-Some.ensures.items) ∙ c.loop-change.invariant.cells;
  index = c.undo.ensures.index c.loop-change.invariant.index;
  due = c.loop-change.invariant.due;
}
