use Rattle.std.proofs.Common.{◌≡◌, [], map, take}
use Rattle.book_core.proofs.Rooms.{lists_of}
use Rattle.book_core.proofs.opening.empty_queues.Given as goal

abbrev pub invariant-loop-node : goal.invariant-loop-node
invariant-loop-node l = lists_of l.queues.items ≡ map (λ node. []) (take l._node-index l.nodes)
