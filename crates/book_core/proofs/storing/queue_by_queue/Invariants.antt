use Rattle.std.proofs.Common.{◌≡◌, take}
use Rattle.std.specs.List.{flat_map}
use Rattle.book_core.proofs.storing.queue_by_queue.Given as goal

abbrev pub invariant-loop-queue : goal.invariant-loop-queue
invariant-loop-queue l = l.waiting.items ≡ flat_map (λ q. q.panes) (take l.queue-index l.queues)
