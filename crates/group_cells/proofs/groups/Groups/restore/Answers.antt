use Rattle.std.proofs.Common.{List, ap, arith, length, subst, sym}
use Rattle.beam_values.specs.declared.cell.Cell.{Cell}
use Rattle.beam_values.specs.declared.plan.Plan.{Plan}
use Rattle.group_cells.specs.Arrivals.{UnmergedStand}
use Rattle.group_cells.specs.Plain.{AreCells}
use Rattle.group_cells.proofs.Restored.{are_cells, unmerged_stand}
use Rattle.group_cells.proofs.groups.Groups.restore.Goals as goal

pub invariant_of-result : goal.invariant_of-result
invariant_of-result c =
    let plan = c.args.plan.now in
    let cells = c.args.cells in
    let as_plan = sym c.in_ok-plan.ensures in
    let as_cells = sym c.in_ok-tracked.ensures.cells in
    record {
      cells = subst (λ (p : Plan). AreCells p c.in_ok-tracked.tracked.cells.items) as_plan
          (subst (λ (l : List Cell). AreCells plan l) as_cells (are_cells plan c.args.marks.now cells c.requires.sane));
      stand = subst (λ (p : Plan). UnmergedStand p c.in_ok-tracked.tracked.cells.items) as_plan
          (subst (λ (l : List Cell). UnmergedStand plan l) as_cells (unmerged_stand plan c.args.marks.now cells c.requires.sane));
      rest = c.in_ok-tracked.ensures.rest;
      standing_are = tt;
      small = omega (arith, ap length c.in_ok-tracked.ensures.cells, c.requires.few);
    }
