use Rattle.std.proofs.Common.{◌≡◌, ◌++◌, List, length, take}
use Rattle.beam_model.specs.Holds.{Hold}
use Rattle.book_core.specs.Indexes.{AreHeldIn}
use Rattle.book_core.specs.Restoring.{batch_holds}
use Rattle.book_core.proofs.restoring.hold_returned.Given as goal

abbrev pub invariant-loop-batch : goal.invariant-loop-batch
invariant-loop-batch l = record {
  held : (holds : List Hold) → AreHeldIn l.initial.held holds → AreHeldIn l.held (batch_holds (take l.batch-index l.returned) ++ holds);
  sized : length l.held ≡ length l.initial.held;
}
