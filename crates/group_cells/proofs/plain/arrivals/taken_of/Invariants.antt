use Rattle.std.proofs.Common.{◌≡◌, take}
use Rattle.std.specs.List.{filter}
use Rattle.group_cells.specs.Commits.{is_taken}
use Rattle.group_cells.proofs.plain.arrivals.taken_of.Given as goal

abbrev pub invariant-loop-arrival : goal.invariant-loop-arrival
invariant-loop-arrival l = l.taken ≡ filter (is_taken l.plan l.before) (take l.arrival-index l.arrivals)
