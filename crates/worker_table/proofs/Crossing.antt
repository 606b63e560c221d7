-- A book may cross threads, and so may a pass; a table may be shared by them.
use denote.RattleType.{RattleType}
use denote.Param.Send.{IsSend, IsSync, sendable, view_send, view_sync}
use denote.Param.SendFields.{as_row_send, as_row_sync, declared_send, declared_sync, variants_send, variants_sync}
use Rattle.std.proofs.Crossing.{crosses}
use Rattle.turn_desk.proofs.desk.Desk.TheSendSync as desk
use Rattle.turn_desk.proofs.desk.Pass.TheSendSync as pass
use Rattle.std.proofs.MapsCrossing.{crosses as maps}
use Rattle.beam_values.proofs.Crossing.{Arrival-send, Boxed-send, Boxed-sync, Bytes-send, Bytes-sync, Cell-send, CommitMarks-send, Dropped-send, Element-send, Entry-send, List-send, List-sync, LogEntry-send, LogInput-send, Pane-send, Plan-send, Plan-sync, StageMarks-send, Trigger-send, Value-send, Value-sync}
use Rattle.beam_containers.specs.contracts.roomy.RoomyList as RoomyList
use Rattle.beam_values.specs.contracts.element.Element as Element
use Rattle.beam_values.specs.contracts.log.LogInput as LogInput
use Rattle.beam_values.specs.contracts.piece.Dead as Dead
use Rattle.beam_values.specs.contracts.piece.Done as Done
use Rattle.beam_values.specs.contracts.piece.Piece as Piece
use Rattle.windowing.specs.contracts.facts.NodeFacts as NodeFacts
use Rattle.pipeline_graph.specs.contracts.graph.Graph as Graph
use Rattle.pipeline_graph.specs.contracts.graph.Graph.TheInside as GraphInside
use Rattle.split_core.specs.contracts.pieces.Pieces as Pieces
use Rattle.group_cells.specs.contracts.groups.Groups as Groups
use Rattle.group_cells.specs.contracts.groups.Groups.TheInside as GroupsInside
use Rattle.group_cells.specs.contracts.groups.draft.Change as Change
use Rattle.group_cells.specs.contracts.groups.draft.Tracked as Tracked
use Rattle.group_cells.specs.contracts.groups.due.DueCells as DueCells
use Rattle.group_cells.specs.contracts.groups.fired.Unfired as Unfired
use Rattle.group_cells.specs.contracts.groups.group_plan.GroupPlan as GroupPlan
use Rattle.group_cells.specs.contracts.groups.group_plan.GroupPlan.TheInside as GroupPlanInside
use Rattle.group_cells.specs.contracts.groups.handing.Given as Given
use Rattle.group_cells.specs.contracts.groups.standing.Known as Known
use Rattle.group_cells.specs.contracts.groups.standing.Listed as Listed
use Rattle.group_cells.specs.contracts.groups.standing.Standing as Standing
use Rattle.cell_index.specs.contracts.index.CellIndex as CellIndex
use Rattle.cell_index.specs.contracts.index_key.CellKey as CellKey
use Rattle.cell_index.specs.contracts.index_key.IndexKey as IndexKey
use Rattle.cell_index.specs.contracts.index_key.IndexKey.TheInside as IndexKeyInside
use Rattle.group_cells.specs.contracts.groups.keyed.GroupKey as GroupKey
use Rattle.group_cells.specs.contracts.groups.keyed.LedKey as LedKey
use Rattle.group_cells.specs.contracts.groups.keyed.LedKey.TheInside as LedKeyInside
use Rattle.group_cells.specs.contracts.groups.room.Room as Room
use Rattle.group_cells.specs.contracts.rules.Rules as Rules
use Rattle.keyed_state.specs.contracts.bag.Bag as Bag
use Rattle.keyed_state.specs.contracts.bag.Bag.TheInside as BagInside
use Rattle.keyed_state.specs.contracts.cell.Cell as FormCell
use Rattle.keyed_state.specs.contracts.cell.Cell.TheInside as FormCellInside
use Rattle.keyed_state.specs.contracts.cell.Form as Form
use Rattle.keyed_state.specs.contracts.run.Run as BagRun
use Rattle.keyed_state.specs.contracts.run.Run.TheInside as BagRunInside
use Rattle.keyed_state.specs.contracts.state.KeyState as KeyState
use Rattle.keyed_state.specs.contracts.state.KeyState.TheInside as KeyStateInside
use Rattle.timer_core.specs.contracts.timers.Timers as Timers
use Rattle.stateful_core.specs.contracts.key_index.KeyIndex as KeyIndex
use Rattle.stateful_core.specs.contracts.key_job.KeyTurn as KeyTurn
use Rattle.stateful_core.specs.contracts.keys.Keys as Keys
use Rattle.stateful_core.specs.contracts.keys.Keys.TheInside as KeysInside
use Rattle.mark_trees.specs.contracts.least_tree.LeastTree as LeastTree
use Rattle.mark_trees.specs.contracts.least_tree.LeastTree.TheInside as LeastTreeInside
use Rattle.mark_trees.specs.contracts.twin_marks.TwinMarks as TwinMarks
use Rattle.stateful_core.specs.contracts.minima.Minima as Minima
use Rattle.stateful_core.specs.contracts.minima.Minima.TheInside as MinimaInside
use Rattle.stateful_core.specs.contracts.minima.Run as HoldRun
use Rattle.stateful_core.specs.contracts.node_tree.NodeTree as NodeTree
use Rattle.stateful_core.specs.contracts.queue.Queue as KeyQueue
use Rattle.stateful_core.specs.contracts.queue.Queue.TheInside as KeyQueueInside
use Rattle.stateful_core.specs.contracts.slot.Slot as KeySlot
use Rattle.stateful_core.specs.contracts.timer_holds.TimerHolds as TimerHolds
use Rattle.stateful_core.specs.contracts.waiting.Waiting as Waiting
use Rattle.book_core.specs.contracts.book.Book as Book
use Rattle.book_core.specs.contracts.book.Book.TheInside as BookInside
use Rattle.book_core.specs.contracts.commits.Commits as Commits
use Rattle.book_core.specs.contracts.commits.Commits.TheInside as CommitsInside
use Rattle.book_core.specs.contracts.held.NodeHolds as NodeHolds
use Rattle.book_core.specs.contracts.live.Batch as Batch
use Rattle.book_core.specs.contracts.live.Live as Live
use Rattle.book_core.specs.contracts.queue.Queue as Queue
use Rattle.book_core.specs.contracts.results.Results as Results
use Rattle.worker_table.specs.contracts.held.Shared as Shared
use Rattle.worker_table.specs.contracts.pass.Table as Table
use Rattle.worker_table.specs.contracts.pass.WorkerPass as WorkerPass

-- ---- the graph, which workers share

NodeFacts-send : IsSend NodeFacts.the_row
NodeFacts-send = search sendable depth 40

NodeFacts-sync : IsSync NodeFacts.the_row
NodeFacts-sync = search sendable depth 40

pub Graph-send : IsSend Graph.the_row
Graph-send = view_send _ _ _ _ _ (declared_send GraphInside.the_type (search (Plan-send, NodeFacts-send, List-send, as_row_send, sendable) depth 40))

pub Graph-sync : IsSync Graph.the_row
Graph-sync = view_sync _ _ _ _ _ (declared_sync GraphInside.the_type (search (Plan-sync, NodeFacts-sync, List-sync, as_row_sync, sendable) depth 40))

-- ---- the cells of its Groups

Unfired-send : IsSend Unfired.the_row
Unfired-send = search (sendable, crosses) depth 40

CellKey-send : IsSend CellKey.the_row
CellKey-send = declared_send CellKey.the_type (search (Value-send, as_row_send, sendable) depth 40)

IndexKey-send : IsSend IndexKey.the_row
IndexKey-send = view_send _ _ _ _ _ (declared_send IndexKeyInside.the_type (search (CellKey-send, as_row_send, sendable) depth 40))

GroupKey-send : IsSend GroupKey.the_row
GroupKey-send = declared_send GroupKey.the_type (search (Value-send, as_row_send, sendable) depth 40)

LedKey-send : IsSend LedKey.the_row
LedKey-send = view_send _ _ _ _ _ (declared_send LedKeyInside.the_type (search (GroupKey-send, as_row_send, sendable) depth 40))

Room-send : IsSend Room.the_row
Room-send = declared_send Room.the_type (search (Entry-send, as_row_send, sendable, crosses) depth 40)

Given-send : IsSend Given.the_row
Given-send = variants_send Given.enum (search (Room-send, sendable) depth 40)

Change-send : IsSend Change.the_row
Change-send = variants_send Change.enum (search (Given-send, Unfired-send, as_row_send, sendable) depth 40)

DueCells-send : IsSend DueCells.the_row
DueCells-send = declared_send DueCells.the_type (search (as_row_send, sendable, crosses, maps) depth 40)

CellIndex-send : IsSend CellIndex.the_row
CellIndex-send = declared_send CellIndex.the_type (search (IndexKey-send, as_row_send, sendable, crosses, maps) depth 40)

Tracked-send : IsSend Tracked.the_row
Tracked-send = declared_send Tracked.the_type (search (Cell-send, CellIndex-send, DueCells-send, Change-send, as_row_send, sendable, crosses) depth 40)

Rules-send : IsSend Rules.the_row
Rules-send = search (sendable, crosses) depth 40

GroupPlan-send : IsSend GroupPlan.the_row
GroupPlan-send = view_send _ _ _ _ _ (declared_send GroupPlanInside.the_type (search (Plan-send, Rules-send, Trigger-send, as_row_send, sendable, crosses) depth 40))

Standing-send : IsSend Standing.the_row
Standing-send = search (sendable, crosses) depth 40

Listed-send : IsSend Listed.the_row
Listed-send = declared_send Listed.the_type (search (Standing-send, as_row_send, sendable, crosses, maps) depth 40)

Known-send : IsSend Known.the_row
Known-send = variants_send Known.enum (search (Listed-send, as_row_send, sendable) depth 40)

Groups-send : IsSend Groups.the_row
Groups-send = view_send _ _ _ _ _ (declared_send GroupsInside.the_type (search (GroupPlan-send, Tracked-send, Dropped-send, LedKey-send, Known-send, List-send, as_row_send, sendable, crosses, maps) depth 40))

-- ---- the key cells

RoomyList-send : (T : RattleType) → IsSend T → IsSend (RoomyList.the_row T)
RoomyList-send T s = search (sendable, crosses) depth 40

BagRun-send : IsSend BagRun.the_row
BagRun-send = view_send _ _ _ _ _ (declared_send BagRunInside.the_type (search (Value-send, List-send, as_row_send, sendable) depth 40))

BagRun-sync : IsSync BagRun.the_row
BagRun-sync = view_sync _ _ _ _ _ (declared_sync BagRunInside.the_type (search (Value-sync, List-sync, as_row_sync, sendable) depth 40))

Bag-send : IsSend Bag.the_row
Bag-send = view_send _ _ _ _ _ (declared_send BagInside.the_type (search (BagRun-send, BagRun-sync, Boxed-send, List-send, Value-send, as_row_send, sendable) depth 40))

Bag-sync : IsSync Bag.the_row
Bag-sync = view_sync _ _ _ _ _ (declared_sync BagInside.the_type (search (BagRun-send, BagRun-sync, Boxed-sync, List-sync, Value-sync, as_row_sync, sendable) depth 40))

Form-send : IsSend Form.the_row
Form-send = variants_send Form.enum (search (Bytes-send, List-send, Value-send, Bag-send, as_row_send, sendable, crosses) depth 40)

Form-sync : IsSync Form.the_row
Form-sync = variants_sync Form.enum (search (Bytes-sync, List-sync, Value-sync, Bag-sync, as_row_sync, sendable, crosses) depth 40)

FormCell-send : IsSend FormCell.the_row
FormCell-send = view_send _ _ _ _ _ (declared_send FormCellInside.the_type (search (Form-send, as_row_send, sendable) depth 40))

FormCell-sync : IsSync FormCell.the_row
FormCell-sync = view_sync _ _ _ _ _ (declared_sync FormCellInside.the_type (search (Form-sync, as_row_sync, sendable) depth 40))

KeyState-send : IsSend KeyState.the_row
KeyState-send = view_send _ _ _ _ _ (declared_send KeyStateInside.the_type (search (FormCell-send, as_row_send, sendable, crosses) depth 40))

KeyState-sync : IsSync KeyState.the_row
KeyState-sync = view_sync _ _ _ _ _ (declared_sync KeyStateInside.the_type (search (FormCell-sync, as_row_sync, sendable, crosses) depth 40))

Timers-send : IsSend Timers.the_row
Timers-send = search (sendable, crosses) depth 40

Timers-sync : IsSync Timers.the_row
Timers-sync = search (sendable, crosses) depth 40

TimerHolds-send : IsSend TimerHolds.the_row
TimerHolds-send = search (sendable, crosses) depth 40

Waiting-send : IsSend Waiting.the_row
Waiting-send = declared_send Waiting.the_type (search (Element-send, as_row_send, sendable) depth 40)

HoldRun-send : IsSend HoldRun.the_row
HoldRun-send = search (sendable, crosses) depth 40

Minima-send : IsSend Minima.the_row
Minima-send = view_send _ _ _ _ _ (declared_send MinimaInside.the_type (search (HoldRun-send, as_row_send, sendable, crosses) depth 40))

KeyQueue-send : IsSend KeyQueue.the_row
KeyQueue-send = view_send _ _ _ _ _ (declared_send KeyQueueInside.the_type (search (Waiting-send, Minima-send, as_row_send, sendable, crosses) depth 40))

KeySlot-send : IsSend KeySlot.the_row
KeySlot-send =
    declared_send KeySlot.the_type (search (Value-send, LogEntry-send, RoomyList-send, Boxed-send, KeyState-send, KeyState-sync, Timers-send, Timers-sync, TimerHolds-send, KeyQueue-send, as_row_send, sendable, crosses) depth 40)

KeyIndex-send : IsSend KeyIndex.the_row
KeyIndex-send = declared_send KeyIndex.the_type (search (CellIndex-send, as_row_send, sendable) depth 40)

TwinMarks-send : IsSend TwinMarks.the_row
TwinMarks-send = search (sendable, crosses) depth 40

LeastTree-send : IsSend LeastTree.the_row
LeastTree-send = view_send _ _ _ _ _ (declared_send LeastTreeInside.the_type (search (TwinMarks-send, as_row_send, sendable, crosses) depth 40))

NodeTree-send : IsSend NodeTree.the_row
NodeTree-send = declared_send NodeTree.the_type (search (LeastTree-send, as_row_send, sendable) depth 40)

Keys-send : IsSend Keys.the_row
Keys-send = view_send _ _ _ _ _ (declared_send KeysInside.the_type (search (KeyIndex-send, KeySlot-send, NodeTree-send, as_row_send, sendable, crosses) depth 40))

-- ---- the book

Pieces-send : IsSend Pieces.the_row
Pieces-send = search (sendable, crosses) depth 40

Queue-send : IsSend Queue.the_row
Queue-send = search (sendable, crosses) depth 40

NodeHolds-send : IsSend NodeHolds.the_row
NodeHolds-send = search (sendable, crosses, maps) depth 40

Element-sync : IsSync Element.the_row
Element-sync = declared_sync Element.the_type (search (Value-sync, as_row_sync, sendable, crosses) depth 40)

LogInput-sync : IsSync LogInput.the_row
LogInput-sync = variants_sync LogInput.enum (search (Element-sync, as_row_sync, sendable, crosses) depth 40)

KeyTurn-send : IsSend KeyTurn.the_row
KeyTurn-send = declared_send KeyTurn.the_type (search (Value-send, LogInput-send, LogInput-sync, List-send, List-sync, Boxed-send, KeyState-send, KeyState-sync, Timers-send, Timers-sync, as_row_send, sendable, crosses) depth 40)

Piece-send : IsSend Piece.the_row
Piece-send = search (sendable, crosses) depth 40

Batch-send : IsSend Batch.the_row
Batch-send = search (sendable, crosses) depth 40

Live-send : IsSend Live.the_row
Live-send = variants_send Live.enum (search (KeyTurn-send, Piece-send, Batch-send, as_row_send, sendable, crosses) depth 40)

Done-send : IsSend Done.the_row
Done-send = search sendable depth 40

Dead-send : IsSend Dead.the_row
Dead-send = search (sendable, crosses) depth 40

Commits-send : IsSend Commits.the_row
Commits-send = view_send _ _ _ _ _ (declared_send CommitsInside.the_type (search (CommitMarks-send, StageMarks-send, List-send, as_row_send, sendable, crosses) depth 40))

Results-send : IsSend Results.the_row
Results-send = declared_send Results.the_type (search (RoomyList-send, Pane-send, Done-send, Dead-send, Arrival-send, Commits-send, as_row_send) depth 40)

pub Book-send : IsSend Book.the_row
Book-send =
    view_send _ _ _ _ _ (declared_send BookInside.the_type (search (Graph-send, as_row_send, sendable, crosses) depth 40, (search (List-send, as_row_send, sendable, crosses) depth 40, (search (as_row_send, sendable, crosses) depth 40, (search (Pieces-send, as_row_send, sendable, crosses) depth 40, (search (Live-send, as_row_send, sendable, crosses) depth 40, (search (Queue-send, as_row_send, sendable, crosses) depth 40, (search (RoomyList-send, Batch-send, as_row_send, sendable, crosses) depth 40, (search (Groups-send, as_row_send, sendable, crosses) depth 40, (search (Keys-send, as_row_send, sendable, crosses) depth 40, (search (as_row_send, sendable, crosses) depth 40, (search (Results-send, as_row_send, sendable, crosses) depth 40, (search (as_row_send, sendable, crosses) depth 40, (search (as_row_send, sendable, crosses) depth 40, (search (NodeHolds-send, as_row_send, sendable, crosses) depth 40, (search (as_row_send, sendable, crosses) depth 40, tt))))))))))))))))

-- ---- the table

Shared-send : IsSend Shared.the_row
Shared-send = search (Book-send, as_row_send, sendable, crosses) depth 40

pub WorkerPass-send : IsSend WorkerPass.the_row
WorkerPass-send = declared_send WorkerPass.the_type (search (Shared-send, pass.the_send, as_row_send, sendable, crosses) depth 40)

pub Table-sync : IsSync Table.the_row
Table-sync = declared_sync Table.the_type (search (Shared-send, desk.the_sync, as_row_sync, as_row_send, sendable, crosses) depth 40)
