use Rattle.stateful_core.proofs.cell_hold.cell_hold.Goals as goal

pub returns : goal.returns
returns c = c.hold_from.ensures c.args.slot.now.node
