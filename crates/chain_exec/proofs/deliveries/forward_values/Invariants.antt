use Rattle.std.proofs.Common.{◌≡◌, ◌++◌, length, map, reverse}
use Rattle.std.specs.List.{flat_map}
use Rattle.chain_exec.specs.Deliveries.{deliveries_to, element_of}
use Rattle.chain_exec.proofs.deliveries.forward_values.Given as goal

abbrev pub invariant-loop-values : goal.invariant-loop-values
invariant-loop-values l =
    l.stack ++ reverse (flat_map (deliveries_to l.nodes) (map element_of l.values))
    ≡ l.initial.stack ++ reverse (flat_map (deliveries_to l.nodes) (map element_of l.initial.values))

abbrev pub decreases-loop-values : goal.decreases-loop-values
decreases-loop-values l = length l.values
