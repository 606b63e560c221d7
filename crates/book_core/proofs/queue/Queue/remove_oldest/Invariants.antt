use Rattle.std.proofs.Common.{◌≡◌, drop}
use Rattle.book_core.proofs.queue.Queue.remove_oldest.Given as goal

abbrev pub invariant-loop-place : goal.invariant-loop-place
invariant-loop-place l = l.self-inside.panes.items ≡ drop l._place l.initial.self-inside.panes.items
