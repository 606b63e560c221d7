use Rattle.std.proofs.Common.{◌≡◌, ◌≤◌, length, take}
use Rattle.std.specs.List.{flat_map}
use Rattle.book_core.specs.Book.{batch_of}
use Rattle.book_core.proofs.working.count_batches.Given as goal

abbrev pub invariant-loop-slot : goal.invariant-loop-slot
invariant-loop-slot l = record {
  counted : l.count ≡ length (flat_map batch_of (take l.slot-index l.slots));
  within : l.count ≤ l.slot-index;
}
