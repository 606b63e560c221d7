use Rattle.std.proofs.Common.{refl, sym, ◌∙◌}
use Rattle.group_cells.proofs.SettledMoments.{goes_out, stays_in}
use Rattle.group_cells.proofs.groups.due.DueCells.take_out.Goals as goal

pub returns-then-is_due-clause-moments : goal.returns-then-is_due-clause-moments
returns-then-is_due-clause-moments c = λ before h same noted.
    stays_in c.args.plan.now before c.args.self.now c.args.self.now c.args.cells.now c.args.key h same noted refl (sym c.is_due.ensures ∙ c.if-is_due.true) refl

pub returns-clause-moments : goal.returns-clause-moments
returns-clause-moments c = λ before h same noted.
    goes_out c.args.plan.now before c.args.self.now (record { unseen = c.args.self.now.unseen; moments = c.remove.new.self; moved = c.args.self.now.moved }) c.args.cells.now c.args.key h same noted refl
    (sym c.is_due.ensures ∙ c.if-is_due.false) c.remove.ensures.updates
