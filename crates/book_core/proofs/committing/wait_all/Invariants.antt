use Rattle.std.proofs.Common.{◌≡◌, ℕ, ◌-◌, ◌++◌, List, length, map, take}
use Rattle.std.specs.List.{All}
use Rattle.beam_model.specs.Holds.{Hold, pane_hold}
use Rattle.book_core.specs.Committing.{list_at, HasRoom}
use Rattle.book_core.specs.Indexes.{AreHeldIn}
use Rattle.book_core.proofs.CommitRooms.{still}
use Rattle.book_core.proofs.committing.wait_all.Given as goal

abbrev pub invariant-loop-i : goal.invariant-loop-i
invariant-loop-i l = record {
  lists : (n : ℕ) → list_at l.queues.items n ++ still l.before l.first l.fired n l.i ≡ list_at l.initial.queues.items n ++ still l.before l.first l.fired n 0;
  count : length l.queues.items ≡ length l.initial.queues.items;
  held : (holds : List Hold) → AreHeldIn l.initial.held holds → AreHeldIn l.held (map (pane_hold l.before) (take l.i l.fired) ++ holds);
  room : All (λ pane. HasRoom l.queues.items l.held pane.node (length l.fired - l.i)) l.fired;
  sized : length l.held ≡ length l.initial.held;
}
