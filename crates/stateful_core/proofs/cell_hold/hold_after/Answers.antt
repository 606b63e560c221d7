use Rattle.std.proofs.Common.{ap, ◌∙◌, List, ℤ}
use Rattle.std.specs.Prelude.{Option}
use Rattle.beam_model.specs.Holds.{Hold, least_hold}
use Rattle.stateful_core.specs.Opening.{done_of}
use Rattle.stateful_core.specs.Placing.{timer_holds_after}
use Rattle.stateful_core.specs.Seen.{cell_of}
use Rattle.stateful_core.proofs.CellHolds.{done_holds}
use Rattle.stateful_core.proofs.cell_hold.hold_after.Goals as goal

pub returns : goal.returns
returns c =
    c.hold_from.ensures c.args.slot.now.node
    ∙ ap (λ (l : List Hold). least_hold l c.args.slot.now.node)
    (done_holds c.args.before.now (done_of c.args.done.now) (cell_of c.args.slot.now) c.unwrap_or-from.result c.mark_out-mark.result c.after-timers.result
    c.unwrap_or-from.ensures c.mark_out-mark.ensures
    (c.after-timers.ensures ∙ ap (λ (t : List (Option ℤ)). timer_holds_after c.mark_out-mark.result c.args.slot.now.timer_holds t c.get-2.result.now) c.get.ensures
    ∙ ap (λ (t : List (Option ℤ)). timer_holds_after c.mark_out-mark.result c.args.slot.now.timer_holds c.args.slot.now.timers t) c.get-2.ensures))
