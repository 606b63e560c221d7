use Rattle.std.proofs.Common.{◌+◌, ◌<◌, ℤ, List, arith, length, subst, sym, ◌∙◌}
use Rattle.beam_values.specs.declared.cell.Pane.{Pane}
use Rattle.watermarks.specs.Holds.{hold_at}
use Rattle.watermarks.proofs.NodeMarks.{hold_read}
use Rattle.group_cells.specs.Plain.{IsNodeDone}
use Rattle.group_cells.proofs.FiredInTurn.{AreFiredBelow, fired_all, fired_more}
use Rattle.group_cells.proofs.groups.draft.Draft.fire_all.Goals as goal

pub loop-n-preserved : goal.loop-n-preserved
loop-n-preserved c =
    let plan = c.args.plan.now in
    let before = c.args.before.now in
    let holds = c.args.holds.now in
    let n = c.loop-n.n in
    let inside : n < length holds = omega arith in
    let done : IsNodeDone plan before (hold_at holds n) c.args.commit n c.loop-n.self.cells c.fire_node.new.self.cells c.loop-n.marks.items c.fire_node.new.marks.items c.in_ok-panes.panes =
    subst (λ (h : ℤ). IsNodeDone plan before h c.args.commit n c.loop-n.self.cells c.fire_node.new.self.cells c.loop-n.marks.items c.fire_node.new.marks.items c.in_ok-panes.panes)
    (hold_read holds n c.index-holds-n.result inside c.index-holds-n.is) c.in_ok-panes.ensures.fired in
    record {
      fired = subst (λ (l : List Pane). AreFiredBelow plan before (hold_at holds) c.args.commit c.args.self.now.cells (n + 1) c.fire_node.new.self.cells c.fire_node.new.marks.items l) (sym c.in_ok-fired.ensures)
          (fired_more plan before (hold_at holds) c.args.commit c.args.self.now.cells n c.loop-n.self.cells c.fire_node.new.self.cells c.loop-n.marks.items c.fire_node.new.marks.items c.loop-n.fired
          c.in_ok-panes.panes c.requires.checked c.loop-n.invariant.fired done);
      same = (c.fire_node.ensures.same.0 ∙ c.loop-n.invariant.same.0, c.fire_node.ensures.same.1 ∙ c.loop-n.invariant.same.1);
    }

pub returns-clause-fired : goal.returns-clause-fired
returns-clause-fired c =
    fired_all c.args.plan.now c.args.before.now (hold_at c.args.holds.now) c.args.commit c.args.self.now.cells c.loop-n.n c.loop-n.self.cells c.loop-n.marks.items c.loop-n.fired
    (omega (arith, c.loop-n-test.false)) c.loop-n.invariant.fired
