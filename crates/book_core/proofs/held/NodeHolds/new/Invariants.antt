use Rattle.std.proofs.Common.{◌≡◌, [], replicate}
use Rattle.book_core.proofs.held.NodeHolds.new.Given as goal

abbrev pub invariant-loop-node : goal.invariant-loop-node
invariant-loop-node l = l.nodes.items ≡ replicate l._node (record { marks = []; room = 0 })
