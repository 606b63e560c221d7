use Rattle.std.proofs.Common.{◌≡◌, ◌++◌, length, map, reverse}
use Rattle.std.specs.List.{flat_map}
use Rattle.chain_exec.specs.Deliveries.{deliveries_to}
use Rattle.chain_exec.specs.Passing.{in_window}
use Rattle.chain_exec.proofs.deliveries.forward_in_windows.Given as goal

abbrev pub invariant-loop-windows : goal.invariant-loop-windows
invariant-loop-windows l =
    l.stack ++ reverse (flat_map (deliveries_to l.nodes) (map (in_window l.next.element) l.windows))
    ≡ l.initial.stack ++ reverse (flat_map (deliveries_to l.nodes) (map (in_window l.initial.next.element) l.initial.windows))

abbrev pub decreases-loop-windows : goal.decreases-loop-windows
decreases-loop-windows l = length l.windows
