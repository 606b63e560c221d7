use Rattle.std.proofs.Common.{◌≡◌, ℕ, ◌≤◌, ◌++◌, List, length, drop}
use Rattle.beam_model.specs.Holds.{Hold}
use Rattle.book_core.specs.Committing.{pane_holds}
use Rattle.book_core.specs.Indexes.{AreHeldIn, room_in}
use Rattle.book_core.proofs.committing.free_panes.Given as goal

abbrev pub invariant-loop-pane : goal.invariant-loop-pane
invariant-loop-pane l = record {
  freed : (holds : List Hold) → AreHeldIn l.initial.held (pane_holds l.node l.panes ++ holds) → AreHeldIn l.held (pane_holds l.node (drop l.pane-index l.panes) ++ holds);
  kept : (n : ℕ) → room_in l.initial.held n ≤ room_in l.held n;
  sized : length l.held ≡ length l.initial.held;
}
