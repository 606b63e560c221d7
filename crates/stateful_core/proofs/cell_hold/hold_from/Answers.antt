use Rattle.std.proofs.Common.{◌∙◌}
use Rattle.stateful_core.proofs.CellHolds.{least_from}
use Rattle.stateful_core.proofs.cell_hold.hold_from.Goals as goal

pub returns : goal.returns
returns c = λ node.
    c.lower_timers.ensures ∙ least_from node c.args.from c.args.waiting.now.items c.args.timers.now c.lowered.result c.lowered.ensures
