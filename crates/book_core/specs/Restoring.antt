-- What a book that is restored is made of: the queues of the panes that wait, and what holds nodes back.
--
-- Of 4 nodes, where pane 0 is of node 1 and pane 1 of node 3, the panes 0 and 1 wait in the queues [], [0], [] and [1], and hold the nodes 1 and 3 back.
use Rattle.std.specs.Prelude.{◌≡◌, ℕ, ◌<◌, List, map, slice_get, Some}
use Rattle.std.specs.List.{enumerate_from, filter, flat_map}
use Rattle.beam_values.specs.declared.cell.Pane.{Pane}
use Rattle.beam_values.specs.declared.plan.Node.{Node}
use Rattle.beam_model.specs.Holds.{Hold}
use Rattle.book_core.specs.Book.{held_at, held_in, hold_of}
use Rattle.book_core.specs.Stored.{waits_at}
use Rattle.book_core.specs.declared.live.Batch.{Batch}
use Rattle.book_core.specs.declared.live.WaitingPane.{WaitingPane}

-- it is one of the panes, and of one of so many nodes
abbrev pub WaitsWithin : List Pane → ℕ → WaitingPane → Type 0
WaitsWithin panes nodes waiting = (pane : Pane) × (slice_get panes waiting.pane ≡ Some pane) × (pane.node < nodes)

-- of each node those that wait there, as `queues_of` has them
abbrev pub queues_at : List Pane → List WaitingPane → List Node → List (List WaitingPane)
queues_at panes waiting nodes = map (λ (node, _). filter (waits_at panes node) waiting) (enumerate_from 0 nodes)

-- the holds of what waits in queues, and of batches
abbrev pub queue_holds : List (List WaitingPane) → List Hold
queue_holds queues = map hold_of (flat_map (λ (node, panes). held_at node panes) (enumerate_from 0 queues))

abbrev pub batch_holds : List Batch → List Hold
batch_holds batches = map hold_of (flat_map held_in batches)
