use Rattle.std.proofs.Common.{◌≡◌, ◌*◌, ◌≤◌, ◌++◌, drop}
use Rattle.plan_reader.specs.Placing.{places_from, places_of}
use Rattle.plan_reader.proofs.placing.places_of.Given as goal

-- what is placed and what is left are all places
abbrev pub invariant-loop-node : goal.invariant-loop-node
invariant-loop-node l = record {
  whole : l.places.items ++ places_from l.count (drop l.node-index l.nodes) ≡ places_of l.nodes;
  few : l.count ≤ 5 * l.node-index;
}
