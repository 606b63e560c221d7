use Rattle.std.proofs.Common.{◌≡◌, ℕ, ◌++◌, List, length, take}
use Rattle.std.specs.List.{filter}
use Rattle.beam_model.specs.Holds.{Hold}
use Rattle.book_core.specs.Committing.{list_at}
use Rattle.book_core.specs.Indexes.{AreHeldIn}
use Rattle.book_core.specs.Restoring.{queue_holds}
use Rattle.book_core.specs.Stored.{waits_at}
use Rattle.book_core.proofs.Rooms.{lists_of}
use Rattle.book_core.proofs.restoring.wait_again.Given as goal

abbrev pub invariant-loop-pane : goal.invariant-loop-pane
invariant-loop-pane l = record {
  lists : (n : ℕ) → list_at l.queues.items n ≡ filter (waits_at l.panes n) (take l.pane-index l.waiting);
  count : length l.queues.items ≡ length l.initial.queues.items;
  held : (holds : List Hold) → AreHeldIn l.initial.held holds → AreHeldIn l.held (queue_holds (lists_of l.queues.items) ++ holds);
  sized : length l.held ≡ length l.initial.held;
}
