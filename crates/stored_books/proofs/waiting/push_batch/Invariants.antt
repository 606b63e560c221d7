use Rattle.std.proofs.Common.{◌≡◌, ◌++◌, take, map}
use Rattle.stored_books.specs.Held.{place_at}
use Rattle.stored_books.proofs.waiting.push_batch.Given as goal

abbrev pub invariant-loop-waiting : goal.invariant-loop-waiting
invariant-loop-waiting l = l.held.items ≡ l.fn.held.items ++ map (λ waiting. place_at waiting l.batch.node) (take l.waiting-index l.batch.panes)
