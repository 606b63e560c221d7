use Rattle.std.proofs.Common.{◌≡◌, ◌++◌, length, reverse}
use Rattle.std.specs.List.{flat_map}
use Rattle.chain_exec.specs.Deliveries.{deliveries_to}
use Rattle.chain_exec.proofs.deliveries.forward_each.Given as goal

abbrev pub invariant-loop-elements : goal.invariant-loop-elements
invariant-loop-elements l =
    l.stack ++ reverse (flat_map (deliveries_to l.nodes) l.elements) ≡ l.initial.stack ++ reverse (flat_map (deliveries_to l.nodes) l.initial.elements)

abbrev pub decreases-loop-elements : goal.decreases-loop-elements
decreases-loop-elements l = length l.elements
