use Rattle.std.proofs.Common.{◌≡◌, ◌++◌, length, take, drop, map}
use Rattle.std.specs.List.{filter}
use Rattle.group_cells.specs.Arrivals.{with_arrivals}
use Rattle.group_cells.specs.Commits.{dropped_arrival, is_dropped}
use Rattle.group_cells.specs.Undoing.{AreOfCommit}
use Rattle.group_cells.proofs.groups.draft.Draft.place_all.Given as goal

abbrev pub invariant-loop-arrival : goal.invariant-loop-arrival
invariant-loop-arrival l = record {
  cells : with_arrivals l.commit.plan.now l.commit.before.now l.commit.number l.self.cells (drop l.arrival-index l.arrivals)
      ≡ with_arrivals l.commit.plan.now l.commit.before.now l.commit.number l.fn.self.cells l.arrivals;
  dropped : l.dropped.items ++ map (dropped_arrival l.commit.number) (filter (is_dropped l.commit.plan.now l.commit.before.now) (drop l.arrival-index l.arrivals))
      ≡ l.fn.dropped.items ++ map (dropped_arrival l.commit.number) (filter (is_dropped l.commit.plan.now l.commit.before.now) l.arrivals);
  kept : take (length l.fn.dropped.items) l.dropped.items ≡ l.fn.dropped.items;
  same : AreOfCommit l.fn.self l.self;
}
