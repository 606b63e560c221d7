use Rattle.std.proofs.Common.{◌≡◌, ◌≤◌, ◌++◌, [], true, None, length, map, take}
use Rattle.beam_model.specs.Chains.{Arrives}
use Rattle.beam_model.specs.Spread.{first_poison}
use Rattle.chain_exec.specs.Deliveries.{on_way, outputs_of_stack}
use Rattle.chain_exec.specs.Passing.{stops_of_all}
use Rattle.chain_exec.proofs.buffers.Buffers.carry.Given as goal

abbrev pub invariant-elements : goal.invariant-elements
invariant-elements g l = record {
  outputs : l.self.outputs ≡ [];
  windows : l.self.windows ≡ [];
  staged : map Arrives l.staging.arrivals ++ outputs_of_stack l.graph (l.self.stack ++ on_way l.goes_on l.self.next)
      ≡ map Arrives l.initial.staging.arrivals ++ outputs_of_stack l.graph (l.initial.self.stack ++ on_way l.initial.goes_on l.initial.self.next);
  only : l.staging ≡ record l.initial.staging { arrivals = l.staging.arrivals };
  front : take (length l.initial.staging.arrivals) l.staging.arrivals ≡ l.initial.staging.arrivals;
  counts : g.F.Shelf.faults l.initial.shelf ≤ g.F.Shelf.faults l.shelf;
  strict : g.F.Shelf.strict l.shelf ≡ g.F.Shelf.strict l.initial.shelf;
  unharmed : g.F.Shelf.strict l.initial.shelf ≡ true → first_poison (outputs_of_stack l.graph (l.initial.self.stack ++ on_way l.initial.goes_on l.initial.self.next)) ≡ None
      → g.F.Shelf.faults l.shelf ≡ g.F.Shelf.faults l.initial.shelf;
}

abbrev pub decreases-elements : goal.decreases-elements
decreases-elements g l = stops_of_all l.graph (l.self.stack ++ on_way l.goes_on l.self.next)
