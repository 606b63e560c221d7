use Rattle.stateful_core.specs.Seen.{cells_of}
use Rattle.stateful_core.proofs.ByIndex.{found_first}
use Rattle.stateful_core.proofs.routing.route_each.Goals as goal

pub returns-clause-kept : goal.returns-clause-kept
returns-clause-kept c = found_first c.loop-arrival.index.numbers.places (cells_of c.args.slots.now) (cells_of c.loop-arrival.routed.fresh.items) c.loop-arrival.invariant.found
