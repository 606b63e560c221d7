use Rattle.std.proofs.Common.{take, flat_map}
use Rattle.stored_books.specs.Held.{batch_holds}
use Rattle.stored_books.specs.Held.{AreHeldOn}
use Rattle.stored_books.proofs.least.hold_returned.Given as goal

abbrev pub invariant-loop-batch : goal.invariant-loop-batch
invariant-loop-batch l = AreHeldOn (flat_map batch_holds (take l.batch-index l.returned)) l.fn.least l.least
