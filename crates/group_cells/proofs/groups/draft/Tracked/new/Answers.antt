use Rattle.std.proofs.Common.{subst, sym}
use Rattle.cell_index.specs.Indexes.{IsIndexOf}
use Rattle.group_cells.specs.Due.{IsDueOf}
use Rattle.group_cells.proofs.groups.draft.Tracked.new.Goals as goal

pub returns-clause-rest : goal.returns-clause-rest
returns-clause-rest c = λ plan. record {
  index = subst (IsIndexOf c.new-2.result) (sym c.new.ensures.items) c.new-2.ensures;
  due = subst (IsDueOf plan c.new-3.result) (sym c.new.ensures.items) (c.new-3.ensures.due plan);
  moved = c.new-3.ensures.moved;
  changes = c.new-4.ensures.items;
}
