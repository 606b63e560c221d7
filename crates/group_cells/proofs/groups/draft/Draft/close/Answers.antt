use Rattle.std.proofs.Common.{List, ap, subst, sym}
use Rattle.beam_values.specs.declared.cell.Cell.{Cell}
use Rattle.beam_values.specs.declared.plan.Plan.{Plan}
use Rattle.group_cells.specs.Due.{IsDueOf}
use Rattle.group_cells.specs.Undoing.{SeenDraft}
use Rattle.group_cells.proofs.groups.draft.Draft.close.Goals as goal

pub settle-requires : goal.settle-requires
settle-requires c = subst (λ (l : List Cell). IsDueOf c.self.inside.plan.now c.self.inside.tracked.due l) (sym c.as_slice.ensures.value) c.self.invariant.due

pub returns-clause-rest : goal.returns-clause-rest
returns-clause-rest c = record {
  index = c.self.invariant.index;
  due = subst (λ (p : Plan). IsDueOf p c.settle.new.self c.self.inside.tracked.cells.items) (ap (λ (d : SeenDraft). d.plan) c.self.view_is)
      (subst (λ (l : List Cell). IsDueOf c.self.inside.plan.now c.settle.new.self l) c.as_slice.ensures.value c.settle.ensures.due);
  moved = c.settle.ensures.moved;
  changes = c.clear.ensures.items;
}
