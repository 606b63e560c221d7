use Rattle.std.proofs.Common.{◌≡◌, ◌+◌, ◌++◌, List, take}
use Rattle.combine_lift.specs.Tables.{Added, StandsFor}
use Rattle.combine_laws.specs.Brought.{added_by}
use Rattle.combine_plan.proofs.folding.add_arrivals.Given as goal

abbrev pub invariant-loop-arrival : goal.invariant-loop-arrival
invariant-loop-arrival g l = record {
  added : (added : List Added) → StandsFor g.C.Combiner.stands l.fn.partials added → StandsFor g.C.Combiner.stands l.partials (added ++ added_by (take l.arrival-index l.arrivals));
  parts : l.partials.parts ≡ l.fn.partials.parts + l.arrival-index;
}
