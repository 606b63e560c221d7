use Rattle.std.proofs.Common.{◌≡◌, take}
use Rattle.stateful_core.proofs.queue.Queue.copies.Given as goal

abbrev pub invariant-loop-place : goal.invariant-loop-place
invariant-loop-place l = l.copies ≡ take l.place l.self-inside.elements.items
