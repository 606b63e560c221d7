-- What every book is, one that a run reached or one that is given back from what was stored. What is worked counts in. The opening is so, and each step keeps it.
-- Nothing here looks back on how the book came about.
--
-- Of a source 0, a Group 1 and a Write 2 over one file of 27 bytes, `[0, 10)` may be done, `[10, 27)` be worked with 2 attempts where 2 calls failed and 3 are
-- allowed, and the panes 0 and 2 wait at the Group, in this order.
use Rattle.std.specs.Prelude.{◌≡◌, ◌<◌, true, List, [], ◌∷◌, ◌++◌, length}
use Rattle.std.specs.List.{All}
use Rattle.std.specs.List.Sorted.{IsSorted}
use Rattle.beam_values.specs.Cells.{pane_cmp}
use Rattle.beam_values.specs.Nodes.{is_group}
use Rattle.group_cells.specs.Sane.{ArePanesCounted, AreSaneCells}
use Rattle.split_core.specs.Partition.{IsListed}
use Rattle.stateful_core.specs.Facts.{AreKeysKept, AreKeysSane}
use Rattle.book_core.specs.Book.{SeenBook, last_marks, live_batches, live_pieces}
use Rattle.book_core.specs.Facts.{AreAtWrites, AreAttemptsCounted, AreHeldOnce, AreKept, AreMarksKept, ArePartitioned, AreSpentWell, AreTurnsKept, IsAttemptedWithin, IsEarlyBook, IsStopNoted, IsWellFormed}
use Rattle.book_core.specs.declared.live.WaitingPane.{WaitingPane}

-- Each piece and each done range is of a listed item. A piece that isn't empty lies in its item, since no other offset is pending; an empty one may lie anywhere.
pub record AreListed (b : SeenBook) : Type 0 where
  pub pieces : All (λ piece. IsListed b.files piece.node piece.item) (b.pending ++ live_pieces b)
  pub done : All (λ d. IsListed b.files d.node d.item) b.done

-- panes in the order in which they fired
abbrev pub AscendByPane : List WaitingPane → Type 0
AscendByPane [] = Unit {0}
AscendByPane (waiting ∷ later) = All (λ other. waiting.pane < other.pane) later × AscendByPane later

pub record AreWaitingInOrder (b : SeenBook) : Type 0 where
  pub queues : All AscendByPane b.queues
  pub batches : All (λ batch. AscendByPane batch.panes) (b.returned ++ live_batches b)

-- The cells are sane at the last marks, so nothing is due in them; and none has put out more panes than there are.
pub record AreCellsSane (b : SeenBook) : Type 0 where
  pub cells : AreSaneCells b.plan (last_marks b) b.cells
  pub indices : ArePanesCounted (length b.panes) b.cells

pub record ArePanesSane (b : SeenBook) : Type 0 where
  pub at_groups : All (λ pane. is_group b.plan pane.node ≡ true) b.panes
  pub commits : All (λ pane. pane.commit < length b.commits) b.panes
  -- by commit, and those of a commit by node, key and window
  pub ordered : IsSorted pane_cmp b.panes

pub record AreDroppedAtGroups (b : SeenBook) : Type 0 where
  pub at_groups : All (λ lost. is_group b.plan lost.node ≡ true) b.dropped

pub record IsSane (b : SeenBook) : Type 0 where
  pub formed : IsWellFormed b
  pub listed : AreListed b
  pub partitioned : ArePartitioned b
  pub attempted : All IsAttemptedWithin b.slots
  pub attempts : AreAttemptsCounted b
  pub spent : AreSpentWell b
  pub stop : IsStopNoted b b.stopped
  pub held : AreHeldOnce b
  pub order : AreWaitingInOrder b
  pub marks : AreMarksKept b
  pub cells : AreCellsSane b
  pub panes : ArePanesSane b
  pub dropped : AreDroppedAtGroups b
  -- the timers of each key cell are those that its function sets, and each key and window has one cell at most
  pub keys : AreKeysSane b.plan b.commits b.keys
  pub turns : AreTurnsKept b
  pub writes : AreAtWrites b

-- What holds besides of every book that a run reached, whatever the files are: what came to the Groups is legal, the log of each key cell leads from the fresh
-- state to the cell's, and windows end early.
pub record AreKeptWith (b : SeenBook) : Type 0 where
  pub sane : IsSane b
  pub kept : AreKept b
  pub keys : AreKeysKept b.plan b.commits b.keys
  pub early : IsEarlyBook b
