use Rattle.std.proofs.Common.{◌++◌, ap, arith, sym, ◌∙◌}
use Rattle.group_cells.specs.Plain.{handed_over_at, once_opened_at, opening_of}
use Rattle.group_cells.proofs.Writes.{flat_map_more, written_more}
use Rattle.group_cells.proofs.plain.placing.hand_all_over.Goals as goal

pub loop-cell-preserved : goal.loop-cell-preserved
loop-cell-preserved c =
    let f = once_opened_at c.args.rules.now c.args.before c.args.node (opening_of c.args.key.now c.args.span) in
    let g = handed_over_at c.args.rules.now c.args.before c.args.node (opening_of c.args.key.now c.args.span) in
    let xs = c.args.cells.now.items in
    let i = c.loop-cell.cell-index in
    let x = c.cell-item.result in
    record {
      cells = written_more f xs c.loop-cell.cell-items i x c.hand_over.new.cell (omega arith) c.loop-cell.invariant.cells c.cell-item.is
          (c.in_ok-hand_over.ensures.cell ∙ ap f (sym c.cell-item.is));
      entries =
          c.in_ok-hand_over.ensures.entries ∙ (λ j. c.loop-cell.invariant.entries j ++ g (sym c.cell-item.is j))
          ∙ flat_map_more f g xs c.loop-cell.cell-items i x (omega arith) c.loop-cell.invariant.cells c.cell-item.is;
    }
