use Rattle.std.proofs.Common.{◌≡◌, ◌+◌, ◌≤◌, ◌++◌, List, length, take}
use Rattle.beam_model.specs.Holds.{Hold}
use Rattle.book_core.specs.Committing.{pane_holds}
use Rattle.book_core.specs.Indexes.{AreHeldIn, room_in}
use Rattle.book_core.proofs.committing.hold_panes.Given as goal

abbrev pub invariant-loop-pane : goal.invariant-loop-pane
invariant-loop-pane l = record {
  held : (holds : List Hold) → AreHeldIn l.initial.held holds → AreHeldIn l.held (pane_holds l.node (take l.pane-index l.panes) ++ holds);
  room : length l.panes ≤ room_in l.held l.node + l.pane-index;
  sized : length l.held ≡ length l.initial.held;
}
