use Rattle.std.proofs.Common.{◌+◌, ◌<◌, ℤ, List, arith, length, subst, sym}
use Rattle.beam_values.specs.declared.cell.Pane.{Pane}
use Rattle.watermarks.specs.Holds.{hold_at}
use Rattle.watermarks.proofs.NodeMarks.{hold_read}
use Rattle.group_cells.specs.Plain.{IsNodeDone}
use Rattle.group_cells.proofs.FiredInTurn.{AreFiredBelow, fired_all, fired_more}
use Rattle.group_cells.proofs.plain.nodes.fire_all.Goals as goal

pub loop-n-preserved : goal.loop-n-preserved
loop-n-preserved c =
    let plan = c.args.plan.now in
    let before = c.args.before.now in
    let holds = c.args.holds.now in
    let n = c.loop-n.n in
    let inside : n < length holds = omega arith in
    let done : IsNodeDone plan before (hold_at holds n) c.args.commit n c.loop-n.cells.items c.fire_node.new.cells.items c.loop-n.marks.items c.fire_node.new.marks.items c.in_ok-panes.panes =
    subst (λ (h : ℤ). IsNodeDone plan before h c.args.commit n c.loop-n.cells.items c.fire_node.new.cells.items c.loop-n.marks.items c.fire_node.new.marks.items c.in_ok-panes.panes)
    (hold_read holds n c.index-holds-n.result inside c.index-holds-n.is) c.in_ok-panes.ensures in
    subst (λ (l : List Pane). AreFiredBelow plan before (hold_at holds) c.args.commit c.args.cells.now.items (n + 1) c.fire_node.new.cells.items c.fire_node.new.marks.items l) (sym c.in_ok-append.ensures.ok)
    (fired_more plan before (hold_at holds) c.args.commit c.args.cells.now.items n c.loop-n.cells.items c.fire_node.new.cells.items c.loop-n.marks.items c.fire_node.new.marks.items c.loop-n.fired
    c.in_ok-panes.panes c.requires.checked c.loop-n.invariant done)

pub returns : goal.returns
returns c =
    fired_all c.args.plan.now c.args.before.now (hold_at c.args.holds.now) c.args.commit c.args.cells.now.items c.loop-n.n c.loop-n.cells.items c.loop-n.marks.items c.loop-n.fired
    (omega (arith, c.loop-n-test.false)) c.loop-n.invariant
