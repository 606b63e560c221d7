use Rattle.group_cells.proofs.groups.due.DueCells.take_back.Goals as goal

pub settle-requires : goal.settle-requires
settle-requires c = record {
  counts = c.recount.ensures.counts;
  moments = c.recount.ensures.kept c.args.plan.now c.args.cells.now c.requires.moments;
  small = c.requires.small;
}
