-- The parts of a commit: which marks it takes from those that hold nodes back, which it adds, and the room that it needs.
use Rattle.std.specs.Prelude.{ℕ, ◌<◌, ◌≤◌, List, [], ◌∷◌, length, map, slice_get, unwrap_or, Option, Some, None}
use Rattle.std.specs.Option.{option_map}
use Rattle.beam_values.specs.declared.fault.FaultNote.{FaultNote}
use Rattle.beam_values.specs.declared.piece.Dead.{Dead}
use Rattle.beam_values.specs.declared.piece.Done.{Done}
use Rattle.beam_values.specs.declared.piece.Piece.{Piece}
use Rattle.beam_values.specs.declared.plan.Plan.{Plan}
use Rattle.beam_model.specs.Holds.{Hold, piece_hold}
use Rattle.bundle_commit.specs.declared.job.Receipt.{Receipt}
use Rattle.watermarks.specs.Holds.{SeenHolds}
use Rattle.book_core.specs.Changes.{dead_of, done_of, residual_of, with_dead, with_done}
use Rattle.book_core.specs.Indexes.{room_in}
use Rattle.book_core.specs.Queues.{SeenQueue}
use Rattle.book_core.specs.declared.live.Live.{Live}
use Rattle.book_core.specs.declared.live.Live.TheVariants as live
use Rattle.book_core.specs.declared.live.WaitingPane.{WaitingPane}
use Rattle.book_core.specs.declared.results.Results.{Results}

-- ---- the job

-- the node that a job that is worked holds back, how often, and at which marks; what a key job is on holds its node back at its cell
abbrev pub node_of : Live → ℕ
node_of (live.Span piece attempted) = piece.node
node_of (live.Batch batch) = batch.node
node_of (live.Key turn) = turn.node

abbrev pub count_of : Live → ℕ
count_of (live.Span piece attempted) = 1
count_of (live.Batch batch) = length batch.panes
count_of (live.Key turn) = 0

abbrev pub pane_holds : ℕ → List WaitingPane → List Hold
pane_holds node panes = map (λ waiting. record { node = node; mark = waiting.hold }) panes

abbrev pub job_holds : Plan → Live → List Hold
job_holds plan (live.Span piece attempted) = piece_hold plan piece ∷ []
job_holds plan (live.Batch batch) = pane_holds batch.node batch.panes
job_holds plan (live.Key turn) = []

-- what is left of it behind the checkpoint, of a spent piece nothing, and how that holds its source back
abbrev pub residual_with : Option FaultNote → Piece → Option ℕ → Receipt → Option Piece
residual_with None piece attempted receipt = residual_of piece attempted receipt
residual_with (Some note) piece attempted receipt = None

abbrev pub residual_in : Live → Receipt → Option Piece
residual_in (live.Span piece attempted) receipt = residual_with piece.spent piece attempted receipt
residual_in (live.Batch batch) receipt = None
residual_in (live.Key turn) receipt = None

abbrev pub residual_holds : Plan → Option Piece → List Hold
residual_holds plan None = []
residual_holds plan (Some piece) = piece_hold plan piece ∷ []

-- the range that it did, and the position that it sets aside
abbrev pub range_done : Option FaultNote → Piece → Option ℕ → Option Done
range_done None piece attempted = Some (done_of piece attempted)
range_done (Some note) piece attempted = None

abbrev pub done_in : Live → Option Done
done_in (live.Span piece attempted) = range_done piece.spent piece attempted
done_in (live.Batch batch) = None
done_in (live.Key turn) = None

abbrev pub position_dead : Option FaultNote → Piece → Option Dead
position_dead None piece = None
position_dead (Some note) piece = Some (dead_of piece note)

abbrev pub dead_in : Live → Option Dead
dead_in (live.Span piece attempted) = position_dead piece.spent piece
dead_in (live.Batch batch) = None
dead_in (live.Key turn) = None

abbrev pub with_done_in : Option Done → List Done → List Done
with_done_in None done = done
with_done_in (Some new) done = with_done new done

abbrev pub with_dead_in : Option Dead → List Dead → List Dead
with_dead_in None dead = dead
with_dead_in (Some new) dead = with_dead new dead

-- ---- room

-- the panes that wait at a node
abbrev pub list_at : List SeenQueue → ℕ → List WaitingPane
list_at queues node = unwrap_or (option_map (λ q. q.panes) (slice_get queues node)) []

abbrev pub queue_room : List SeenQueue → ℕ → ℕ
queue_room queues node = unwrap_or (option_map (λ q. q.room) (slice_get queues node)) 0

-- so many panes more can wait at a node before memory is asked for
pub record HasRoom (queues : List SeenQueue) (held : List SeenHolds) (node places : ℕ) : Type 0 where
  pub queued : node < length queues
  pub holding : node < length held
  pub queue : places ≤ queue_room queues node
  pub marks : places ≤ room_in held node

-- and the lists of results can take what a commit brings
pub record HasRoomFor (results : Results) (fired arrivals : ℕ) : Type 0 where
  pub panes : fired ≤ results.panes.room
  pub done : 0 < results.done.room
  pub dead : 0 < results.dead.room
  pub written : arrivals ≤ results.written.room
  pub commits : 0 < results.commits.room
