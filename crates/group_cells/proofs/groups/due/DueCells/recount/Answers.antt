use Rattle.std.proofs.Common.{ap, arith, ◌∙◌}
use Rattle.std.proofs.Math.ListN.{length-set}
use Rattle.group_cells.specs.Cells.{unseen_in}
use Rattle.group_cells.proofs.DueKeys.{counts_recounted}
use Rattle.group_cells.proofs.groups.due.DueCells.recount.Goals as goal

pub loop-place-preserved : goal.loop-place-preserved
loop-place-preserved c =
    let inside = c.loop-place-test.true in
    let was = c.loop-place.invariant in
    record {
      long = length-set c.loop-place.self.unseen.items c.loop-place.place c.unseen.result ∙ was.long;
      counts = counts_recounted (λ cell. unseen_in cell.entries) c.loop-place.self.unseen.items c.args.cells.now c.loop-place.place c.index-cells-place.result c.unseen.result
          (omega (arith, inside, was.long)) inside c.index-cells-place.is (c.unseen.ensures ∙ ap unseen_in c.as_slice.ensures) was.counts;
      moments = was.moments;
      moved = was.moved;
    }
