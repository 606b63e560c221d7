use Rattle.std.proofs.Common.{◌∙◌}
use Rattle.group_cells.specs.Arrivals.{with_arrival}
use Rattle.group_cells.specs.Commits.{dropped_arrival, is_dropped}
use Rattle.group_cells.proofs.LoopSteps.{fold_step, filter_step, kept_longer}
use Rattle.group_cells.proofs.groups.draft.Draft.place_all.Goals as goal

pub loop-arrival-preserved : goal.loop-arrival-preserved
loop-arrival-preserved c = record {
  cells =
      fold_step (with_arrival c.args.commit.plan.now c.args.commit.before.now c.args.commit.number) c.loop-arrival.self.cells c.place.new.self.cells
      c.args.arrivals.now c.loop-arrival.arrival-index c.arrival-item.result c.loop-arrival-test.true c.arrival-item.is c.in_ok-place.ensures.ok
      ∙ c.loop-arrival.invariant.cells;
  dropped =
      filter_step (is_dropped c.args.commit.plan.now c.args.commit.before.now) (dropped_arrival c.args.commit.number) c.loop-arrival.dropped.items c.place.new.dropped.items
      c.args.arrivals.now c.loop-arrival.arrival-index c.arrival-item.result c.loop-arrival-test.true c.arrival-item.is c.in_ok-place.ensures.dropped
      ∙ c.loop-arrival.invariant.dropped;
  kept = kept_longer c.args.dropped.now.items c.loop-arrival.dropped.items c.place.new.dropped.items c.loop-arrival.invariant.kept c.in_ok-place.ensures.kept;
  same = (c.in_ok-place.ensures.same.0 ∙ c.loop-arrival.invariant.same.0, c.in_ok-place.ensures.same.1 ∙ c.loop-arrival.invariant.same.1);
}
