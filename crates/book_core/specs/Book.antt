-- The book of a run, as plain data: what is pending, worked and committed (Splittable DoFn; The Dataflow Model). All workers of a run change this one book,
-- step by step.
use Rattle.std.specs.Prelude.{ℕ, ◌*◌, ◌-◌, ◌==◌, Bool, if◌then◌else◌, List, [], ◌∷◌, ◌++◌, length, map, slice_get, unwrap_or, Option, Some, None}
use Rattle.std.specs.List.{flat_map, enumerate_from, sum_by}
use Rattle.std.specs.Option.{option_map}
use Rattle.beam_values.specs.Tracking.{Tracked}
use Rattle.beam_values.specs.declared.arrival.Arrival.{Arrival}
use Rattle.beam_values.specs.declared.cell.Cell.{Cell}
use Rattle.beam_values.specs.declared.cell.Dropped.{Dropped}
use Rattle.beam_values.specs.declared.cell.Pane.{Pane}
use Rattle.beam_values.specs.declared.marks.CommitMarks.{CommitMarks}
use Rattle.beam_values.specs.declared.marks.StageMarks.{StageMarks}
use Rattle.beam_values.specs.declared.options.Options.{Options}
use Rattle.beam_values.specs.declared.outcome.StopCause.{StopCause}
use Rattle.beam_values.specs.declared.piece.Dead.{Dead}
use Rattle.beam_values.specs.declared.piece.Done.{Done}
use Rattle.beam_values.specs.declared.piece.FileLen.{FileLen}
use Rattle.beam_values.specs.declared.piece.Piece.{Piece}
use Rattle.beam_values.specs.declared.plan.Plan.{Plan}
use Rattle.beam_model.specs.Holds.{Hold, AreMarksOf}
use Rattle.stateful_core.specs.Cells.{KeyCell, key_holds}
use Rattle.book_core.specs.declared.live.Batch.{Batch}
use Rattle.book_core.specs.declared.live.Live.{Live}
use Rattle.book_core.specs.declared.live.Live.TheVariants as live
use Rattle.book_core.specs.declared.live.WaitingPane.{WaitingPane}

pub record SeenBook : Type 0 where
  pub plan : Plan
  -- the source items and their lengths, by node and item
  pub files : List FileLen
  pub options : Options
  -- the pieces that no slot works, in the order in which they are taken
  pub pending : List Piece
  -- of each slot what it works, if anything
  pub slots : List (Option Live)
  -- of each node the panes that wait, oldest first; only Groups have some
  pub queues : List (List WaitingPane)
  -- batches whose work failed
  pub returned : List Batch
  pub cells : List Cell
  pub dropped : List Dropped
  -- the key cells of the Stateful nodes, numbered by first arrival
  pub keys : List KeyCell
  -- in the order in which they fired
  pub panes : List Pane
  -- by node, item and range
  pub done : List Done
  -- the positions that were set aside, by node, item and position
  pub dead : List Dead
  -- what reached the Writes, in the order in which it came
  pub written : List Arrival
  -- the marks after the opening, and then after each commit
  pub commits : List CommitMarks
  -- how many jobs failed, by the cause of the fault
  pub calls : ℕ
  pub reads : ℕ
  pub stopped : Option StopCause

-- ---- what is worked

abbrev pub piece_of : Option Live → List Piece
piece_of (Some (live.Span piece attempted)) = piece ∷ []
piece_of _ = []

abbrev pub batch_of : Option Live → List Batch
batch_of (Some (live.Batch batch)) = batch ∷ []
batch_of _ = []

-- the number of the key cell whose job it is
abbrev pub cell_worked : Option Live → List ℕ
cell_worked (Some (live.Key turn)) = turn.cell ∷ []
cell_worked _ = []

abbrev pub live_pieces : SeenBook → List Piece
live_pieces b = flat_map piece_of b.slots

abbrev pub live_batches : SeenBook → List Batch
live_batches b = flat_map batch_of b.slots

-- plans of version 2 go on without a position whose work failed as often as it may, the last time in a call: it is set aside
abbrev pub sets_aside : Plan → Bool
sets_aside plan = plan.version == 2

-- so many pieces that are worked may come back as so many: a range of a plan that sets positions aside may be broken into three
abbrev pub most_parts : Plan → ℕ → ℕ
most_parts plan pieces = if sets_aside plan then 3 * pieces else pieces

-- so many places are kept among the pending pieces, for the pieces that are worked
abbrev pub places_kept : SeenBook → ℕ
places_kept b = most_parts b.plan (length (live_pieces b))

abbrev pub slot_at : SeenBook → ℕ → Option (Option Live)
slot_at b slot = slice_get b.slots slot

-- the tracker of a range that is worked
abbrev pub tracker_of : Piece → Option ℕ → Tracked
tracker_of piece attempted = record { range = piece.range; attempted = attempted }

-- ---- panes

-- a pane that isn't through, and its Group
pub record HeldPane : Type 0 where
  pub node : ℕ
  pub waiting : WaitingPane

abbrev pub held_at : ℕ → List WaitingPane → List HeldPane
held_at node panes = map (λ waiting. record { node = node; waiting = waiting }) panes

abbrev pub held_in : Batch → List HeldPane
held_in batch = held_at batch.node batch.panes

abbrev pub queue_at : SeenBook → ℕ → List WaitingPane
queue_at b node = unwrap_or (slice_get b.queues node) []

abbrev pub queued : SeenBook → List HeldPane
queued b = flat_map (λ (node, panes). held_at node panes) (enumerate_from 0 b.queues)

-- the panes that wait, were given back, or are worked: those whose elements haven't gone on yet
abbrev pub held : SeenBook → List HeldPane
held b = queued b ++ (flat_map held_in b.returned ++ flat_map held_in (live_batches b))

abbrev pub pane_at : List Pane → WaitingPane → List Pane
pane_at panes waiting = elim (slice_get panes waiting.pane) [ Some pane ↦ pane ∷ [] | None ↦ [] ]

abbrev pub panes_of : List Pane → List WaitingPane → List Pane
panes_of panes waiting = flat_map (pane_at panes) waiting

-- ---- marks

abbrev pub hold_of : HeldPane → Hold
hold_of held = record { node = held.node; mark = held.waiting.hold }

-- all holds but those of pieces: of panes, and of the elements and timers of key cells
abbrev pub holds : SeenBook → List Hold
holds b = map hold_of (held b) ++ key_holds b.keys

-- the marks that follow from all that isn't committed: pending and live pieces, panes that aren't through, elements that wait at key cells or are worked there,
-- and timers that are set
abbrev pub AreMarksOfBook : SeenBook → List StageMarks → Type 0
AreMarksOfBook b marks = AreMarksOf b.plan (b.pending ++ live_pieces b) (holds b) marks

abbrev pub last_commit : SeenBook → ℕ
last_commit b = length b.commits - 1

-- the marks after the last commit
abbrev pub last_marks : SeenBook → List StageMarks
last_marks b = unwrap_or (option_map (λ commit. commit.marks) (slice_get b.commits (last_commit b))) []

-- ---- key cells

-- how many elements wait at key cells, those that are worked counted in
abbrev pub waiting_in : List KeyCell → ℕ
waiting_in cells = sum_by (λ cell. length cell.waiting) cells
