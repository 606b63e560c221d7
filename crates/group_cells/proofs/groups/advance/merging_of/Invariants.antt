use Rattle.std.proofs.Common.{◌≡◌, take}
use Rattle.std.specs.List.{filter}
use Rattle.group_cells.specs.Arrivals.{merging}
use Rattle.group_cells.proofs.groups.advance.merging_of.Given as goal

abbrev pub invariant-loop-arrival : goal.invariant-loop-arrival
invariant-loop-arrival l = l.later ≡ filter (merging l.plan l.before) (take l.arrival-index l.arrivals)
