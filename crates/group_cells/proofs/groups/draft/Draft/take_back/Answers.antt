use Rattle.std.proofs.Common.{List, ap, arith, length, subst, sym, ◌∙◌}
use Rattle.std.proofs.lemmas.List.{length-map}
use Rattle.beam_values.specs.declared.cell.Cell.{Cell}
use Rattle.beam_values.specs.declared.plan.Plan.{Plan}
use Rattle.group_cells.specs.Cells.{unseen_in}
use Rattle.group_cells.specs.Due.{AreMoments, IsDueOf}
use Rattle.group_cells.specs.Undoing.{undone_all, SeenDraft}
use Rattle.group_cells.specs.declared.groups.due.DueCells.{DueCells}
use Rattle.group_cells.proofs.UndonePlaces.{all_undone_few}
use Rattle.group_cells.proofs.groups.draft.Draft.take_back.Goals as goal

pub take_back-requires-clause-moments : goal.take_back-requires-clause-moments
take_back-requires-clause-moments c =
    let old = c.self.inside.tracked in
    subst (λ (l : List Cell). AreMoments c.self.inside.plan.now c.undo_all.new.self.due l) (sym (c.as_slice.ensures.value ∙ c.undo_all.ensures.cells))
    (subst (λ (d : DueCells). AreMoments c.self.inside.plan.now d (undone_all old.changes.items old.cells.items)) (sym c.undo_all.ensures.due) c.self.invariant.begun)

pub take_back-requires-clause-few : goal.take_back-requires-clause-few
take_back-requires-clause-few c =
    let old = c.self.inside.tracked in
    omega (
      arith,
      ap length (c.as_slice.ensures.value ∙ c.undo_all.ensures.cells),
      all_undone_few old.changes.items old.cells.items,
      ap length c.self.invariant.due.counts,
      length-map old.cells.items (λ (cell : Cell). unseen_in cell.entries),
      ap (λ (d : DueCells). length d.unseen.items) c.undo_all.ensures.due,
    )

pub take_back-requires-clause-small : goal.take_back-requires-clause-small
take_back-requires-clause-small c =
    let old = c.self.inside.tracked in
    omega (arith, ap length (c.as_slice.ensures.value ∙ c.undo_all.ensures.cells), all_undone_few old.changes.items old.cells.items, c.self.invariant.due.small)

pub returns-clause-cells : goal.returns-clause-cells
returns-clause-cells c = c.undo_all.ensures.cells ∙ ap (λ (d : SeenDraft). d.begun) c.self.view_is

pub returns-clause-rest : goal.returns-clause-rest
returns-clause-rest c = record {
  index = c.undo_all.ensures.index;
  due = subst (λ (p : Plan). IsDueOf p c.take_back.new.self c.undo_all.new.self.cells.items) (ap (λ (d : SeenDraft). d.plan) c.self.view_is)
      (subst (λ (l : List Cell). IsDueOf c.self.inside.plan.now c.take_back.new.self l) c.as_slice.ensures.value c.take_back.ensures.due);
  moved = c.take_back.ensures.moved;
  changes = c.undo_all.ensures.changes;
}
