use Rattle.std.proofs.Common.{◌++◌, ◌∷◌, [], List, ap, arith, sym, subst, take, ◌∙◌}
use Rattle.std.specs.Prelude.{option_to_list}
use Rattle.beam_values.specs.declared.cell.Cell.{Cell}
use Rattle.beam_values.specs.declared.cell.Pane.{Pane}
use Rattle.group_cells.specs.Plain.{AreFired, FiresAs, after_node}
use Rattle.group_cells.proofs.FiredGroups.{fired_more}
use Rattle.group_cells.proofs.Writes.{take_written, written_more}
use Rattle.group_cells.proofs.plain.nodes.fire_cells.Goals as goal

pub loop-cell-preserved : goal.loop-cell-preserved
loop-cell-preserved c =
    let rules = c.args.rules.now in
    let f = after_node rules c.args.node c.args.mark in
    let xs = c.args.cells.now.items in
    let i = c.loop-cell.cell-index in
    let x = c.cell-item.result in
    record {
      cells = written_more f xs c.loop-cell.cell-items i x c.fire_at.new.cell (omega arith) c.loop-cell.invariant.cells c.cell-item.is (c.in_ok-pane.ensures.cell ∙ ap f (sym c.cell-item.is));
      panes =
          subst (λ (l : List Cell). AreFired rules c.args.node c.args.commit c.args.mark l c.push_if.new.panes.items)
          (take_written f xs c.loop-cell.cell-items i x (omega arith) c.loop-cell.invariant.cells c.cell-item.is)
          (subst (λ (l : List Pane). AreFired rules c.args.node c.args.commit c.args.mark (take i xs ++ x ∷ []) l) (sym c.in_ok-push_if.ensures)
          (fired_more rules c.args.node c.args.commit c.args.mark (take i xs) c.loop-cell.panes.items x (option_to_list c.in_ok-pane.pane) c.loop-cell.invariant.panes
          (subst (λ (y : Cell). FiresAs rules c.args.node c.args.commit c.args.mark y (option_to_list c.in_ok-pane.pane)) (sym c.cell-item.is) c.in_ok-pane.ensures.pane)));
    }
