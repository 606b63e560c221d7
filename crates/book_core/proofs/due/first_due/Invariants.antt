use Rattle.std.proofs.Common.{◌≡◌, ℕ, ◌<◌}
use Rattle.std.specs.Prelude.{None}
use Rattle.book_core.specs.Book.{SeenBook}
use Rattle.book_core.specs.Jobs.{due_at}
use Rattle.book_core.proofs.Rooms.{lists_of}
use Rattle.book_core.proofs.due.first_due.Given as goal

abbrev pub invariant-loop-node : goal.invariant-loop-node
invariant-loop-node l = (b : SeenBook) → b.returned ≡ l.returned → b.queues ≡ lists_of l.queues → (k : ℕ) → k < l.node → due_at b k ≡ None
