use Rattle.std.proofs.Common.{◌≡◌, ◌++◌, take, flat_map}
use Rattle.stored_books.specs.Held.{places_in}
use Rattle.stored_books.proofs.waiting.push_returned.Given as goal

abbrev pub invariant-loop-batch : goal.invariant-loop-batch
invariant-loop-batch l = l.held.items ≡ l.fn.held.items ++ flat_map places_in (take l.batch-index l.returned)
