use Rattle.std.proofs.Common.{ap, refl, ◌∙◌}
use Rattle.group_cells.proofs.groups.due.DueCells.settle.Goals as goal

pub loop-key-preserved : goal.loop-key-preserved
loop-key-preserved c = record {
  counts = ap (λ v. v.items) c.take_out.ensures.others.1 ∙ c.loop-key.invariant.counts;
  moments = c.take_out.ensures.moments c.loop-key.self c.loop-key.invariant.moments refl c.in-Some.ensures.items;
  small = c.loop-key.invariant.small;
}
