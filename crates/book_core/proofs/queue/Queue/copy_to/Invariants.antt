use Rattle.std.proofs.Common.{◌≡◌, ◌++◌, take}
use Rattle.book_core.proofs.queue.Queue.copy_to.Given as goal

abbrev pub invariant-loop-place : goal.invariant-loop-place
invariant-loop-place l = l.into.items ≡ l.initial.into.items ++ take l.place l.self-inside.panes.items
