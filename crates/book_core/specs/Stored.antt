-- A book as plain data, and the book that data stands for.
--
-- Of a source 0, a Group 1, a Group 2 behind it and a Group 3 behind the source, one commit fired pane 0 at Group 1 and pane 1 at Group 3, and the next one,
-- of the batch of pane 0, pane 2 at Group 2. The data has 1 and 2 in one list; the queue of Group 2 is then 2, and that of Group 3 is 1.
use Rattle.std.specs.Prelude.{◌≡◌, ℕ, ◌<◌, ◌==◌, Bool, false, List, [], ◌∷◌, length, map, slice_get, Some, None}
use Rattle.std.specs.List.{All, enumerate_from, filter}
use Rattle.beam_values.specs.declared.cell.Pane.{Pane}
use Rattle.beam_values.specs.declared.plan.Plan.{Plan}
use Rattle.stateful_core.specs.Data.{AreKeysFormed, cells_of_data}
use Rattle.book_core.specs.Book.{SeenBook}
use Rattle.book_core.specs.Sane.{AscendByPane, IsSane}
use Rattle.book_core.specs.declared.data.BookData.{BookData}
use Rattle.book_core.specs.declared.live.WaitingPane.{WaitingPane}

-- the pane is one of the node
abbrev pub waits_at : List Pane → ℕ → WaitingPane → Bool
waits_at panes node waiting = elim (slice_get panes waiting.pane) [ Some pane ↦ pane.node == node | None ↦ false ]

abbrev pub queue_of : BookData → ℕ → List WaitingPane
queue_of d node = filter (waits_at d.panes node) d.waiting

-- of each node of the plan the panes that wait there
abbrev pub queues_of : BookData → List (List WaitingPane)
queues_of d = map (λ (node, _). queue_of d node) (enumerate_from 0 d.plan.nodes)

-- it has one slot, which works nothing, and isn't stopped
abbrev pub book_of : BookData → SeenBook
book_of d = record {
  plan = d.plan;
  files = d.files;
  options = d.options;
  pending = d.pending;
  slots = None ∷ [];
  queues = queues_of d;
  returned = d.returned;
  cells = d.cells;
  dropped = d.dropped;
  keys = cells_of_data d.keys;
  panes = d.panes;
  done = d.done;
  dead = d.dead;
  written = d.written;
  commits = d.commits;
  calls = d.calls;
  reads = d.reads;
  stopped = None;
}

-- the panes that wait are in the order in which they fired, and each is one of the panes
pub record WaitInOrder (d : BookData) : Type 0 where
  pub order : AscendByPane d.waiting
  pub there : All (λ waiting. waiting.pane < length d.panes) d.waiting

-- the data stands for this book, and nothing in it is lost there
pub record IsDataOf (d : BookData) (b : SeenBook) : Type 0 where
  pub is : book_of d ≡ b
  pub waiting : WaitInOrder d
  pub keys : AreKeysFormed d.keys

-- The data stands for a book of this plan, and nothing in it is lost there. Data of a book is so, and more: what a run can't have left may be so too, where
-- every step from it on keeps what is promised of books that are restored.
pub record IsSaneData (plan : Plan) (d : BookData) : Type 0 where
  pub of_plan : d.plan ≡ plan
  pub sane : IsSane (book_of d)
  pub waiting : WaitInOrder d
  pub keys : AreKeysFormed d.keys
