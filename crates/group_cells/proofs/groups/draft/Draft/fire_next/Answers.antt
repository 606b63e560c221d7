use Rattle.std.proofs.Common.{ap, arith, length}
use Rattle.group_cells.proofs.FiredPlaces.{fired_past}
use Rattle.group_cells.proofs.groups.draft.Draft.fire_next.Goals as goal

pub returns-clause-fired : goal.returns-clause-fired
returns-clause-fired c =
    fired_past c.args.rules.now c.args.node c.args.commit c.args.mark c.args.self.now.cells c.fire.new.self.cells c.args.panes.now.items c.push_if.new.panes.items c.in_ok-pane.pane
    c.args.place c.args.done c.if-place-done.false (omega (arith, c.if-cells-place.false, ap length c.cells.ensures)) c.in_ok-pane.ensures.cells c.in_ok-pane.ensures.pane
    c.in_ok-push_if.ensures
