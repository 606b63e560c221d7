use Rattle.std.proofs.Common.{◌≡◌, ◌++◌, take}
use Rattle.stateful_core.specs.Names.{AreFound, AreRoutes, names_of}
use Rattle.stateful_core.specs.Opening.{fresh_all}
use Rattle.stateful_core.specs.Seen.{cells_of}
use Rattle.stateful_core.proofs.routing.route_each.Given as goal

abbrev pub invariant-loop-arrival : goal.invariant-loop-arrival
invariant-loop-arrival l = record {
  fresh : cells_of l.routed.fresh.items ≡ fresh_all l.plan (cells_of l.slots) (take l.arrival-index l.arrivals);
  found : AreFound l.index.numbers.places (names_of (cells_of l.slots ++ cells_of l.routed.fresh.items));
  routes : AreRoutes l.plan (names_of (cells_of l.slots ++ cells_of l.routed.fresh.items)) (take l.arrival-index l.arrivals) l.routed.routes.items;
}
