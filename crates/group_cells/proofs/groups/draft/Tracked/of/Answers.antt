use Rattle.std.proofs.Common.{subst, sym, ◌∙◌}
use Rattle.cell_index.specs.Indexes.{IsIndexOf}
use Rattle.group_cells.specs.Due.{IsDueOf}
use Rattle.group_cells.proofs.groups.draft.Tracked.of.Goals as goal

pub returns-clause-rest : goal.returns-clause-rest
returns-clause-rest c = record {
  index = subst (IsIndexOf c.in_ok-index.index) (c.as_slice.ensures ∙ sym c.into_vec.ensures) c.in_ok-index.ensures;
  due = subst (IsDueOf c.args.plan.now c.in_ok-due.due) (c.as_slice-2.ensures ∙ sym c.into_vec.ensures) c.in_ok-due.ensures.due;
  moved = c.in_ok-due.ensures.moved;
  changes = c.new.ensures.items;
}
