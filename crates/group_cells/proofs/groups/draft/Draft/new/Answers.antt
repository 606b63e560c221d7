use Rattle.std.proofs.Common.{subst, sym}
use Rattle.group_cells.specs.Due.{AreMoments}
use Rattle.group_cells.specs.Undoing.{undone_all, SeenDraft}
use Rattle.group_cells.proofs.groups.draft.Draft.new.Goals as goal

pub invariant_of-result : goal.invariant_of-result
invariant_of-result c = record {
  index = c.requires.index;
  due = c.requires.due;
  begun = subst (λ changes. AreMoments c.args.plan.now c.args.tracked.due (undone_all changes c.args.tracked.cells.items)) (sym c.requires.changes) c.requires.due.moments;
}

pub returns : goal.returns
returns c = λ i. let d : SeenDraft = record { plan = c.args.plan.now; cells = c.args.tracked.cells.items; begun = undone_all (c.requires.changes i) c.args.tracked.cells.items } in d
