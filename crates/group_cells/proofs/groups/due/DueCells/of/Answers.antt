use Rattle.group_cells.proofs.groups.due.DueCells.of.Goals as goal

pub loop-place-init : goal.loop-place-init
loop-place-init c = (c.new-due.ensures.due c.args.plan.now, c.new-due.ensures.moved)
