use Rattle.std.proofs.Common.{◌≡◌, ◌++◌, length, reverse}
use Rattle.chain_exec.specs.Deliveries.{deliveries_to}
use Rattle.chain_exec.proofs.deliveries.deliver.Given as goal

abbrev pub invariant-loop-last : goal.invariant-loop-last
invariant-loop-last l =
    l.stack ++ reverse (deliveries_to l.rest l.element) ≡ l.initial.stack ++ reverse (deliveries_to l.initial.rest l.element)

abbrev pub decreases-loop-last : goal.decreases-loop-last
decreases-loop-last l = length l.rest
