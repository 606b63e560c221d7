use Rattle.std.proofs.Common.{◌≡◌, take}
use Rattle.book_core.proofs.queue.Queue.oldest.Given as goal

abbrev pub invariant-loop-place : goal.invariant-loop-place
invariant-loop-place l = l.oldest ≡ take l.place l.self-inside.panes.items
