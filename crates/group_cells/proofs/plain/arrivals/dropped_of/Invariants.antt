use Rattle.std.proofs.Common.{◌≡◌, map, take}
use Rattle.std.specs.List.{filter}
use Rattle.group_cells.specs.Commits.{dropped_arrival, is_dropped}
use Rattle.group_cells.proofs.plain.arrivals.dropped_of.Given as goal

abbrev pub invariant-loop-arrival : goal.invariant-loop-arrival
invariant-loop-arrival l = l.dropped ≡ map (dropped_arrival l.commit) (filter (is_dropped l.plan l.before) (take l.arrival-index l.arrivals))
