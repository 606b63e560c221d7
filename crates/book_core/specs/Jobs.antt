-- Which job a slot is given: the panes of the lowest Group first, then the first key cell that has a job, and then the lowest piece. So what fired or waits goes
-- on before more is read.
use Rattle.std.specs.Prelude.{ℕ, ◌==◌, not, if◌then◌else◌, nat_lt, List, [], ◌∷◌, length, min, fold, slice_get, take, drop, slice_set, Option, Some, None}
use Rattle.std.specs.List.{filter}
use Rattle.std.specs.Option.{option_map}
use Rattle.beam_values.specs.Lines.{offsets}
use Rattle.beam_values.specs.declared.cell.Pane.{Pane}
use Rattle.beam_values.specs.declared.piece.Piece.{Piece}
use Rattle.bundle_commit.specs.declared.job.Job.{Job}
use Rattle.bundle_commit.specs.declared.job.Job.TheVariants as job
use Rattle.stateful_core.specs.Cells.{KeyCell}
use Rattle.stateful_core.specs.Taking.{change, next_place, turn_of, with_job}
use Rattle.stateful_core.specs.declared.key_job.KeyTurn.{KeyTurn}
use Rattle.stateful_core.specs.declared.place.Place.{Place}
use Rattle.book_core.specs.Book.{SeenBook, queue_at, panes_of, last_marks}
use Rattle.book_core.specs.declared.live.Batch.{Batch}
use Rattle.book_core.specs.declared.live.Live.{Live}
use Rattle.book_core.specs.declared.live.Live.TheVariants as live
use Rattle.book_core.specs.declared.live.WaitingPane.{WaitingPane}

-- the place of the first pane of a batch in the run's list of panes
abbrev pub first_in : List WaitingPane → ℕ
first_in [] = 0
first_in (waiting ∷ later) = waiting.pane

abbrev pub first_pane : Batch → ℕ
first_pane batch = first_in batch.panes

-- the batch with the lower first pane
abbrev pub lower_batch : Option Batch → Batch → Option Batch
lower_batch None batch = Some batch
lower_batch (Some lowest) batch = if nat_lt (first_pane batch) (first_pane lowest) then Some batch else Some lowest

abbrev pub lowest_of : List Batch → Option Batch
lowest_of batches = fold lower_batch None batches

-- What is due at a node: a batch that was given back, with its own panes, or the oldest panes of its queue.
pub data Due : Type 0 where
  GivenBack : Batch → Due
  Oldest : Batch → Due

-- the oldest panes of a queue, at most so many, as a batch that was never tried
abbrev pub oldest : ℕ → ℕ → List WaitingPane → Option Due
oldest most node [] = None
oldest most node (waiting ∷ later) = Some (Oldest (record { node = node; panes = take most (waiting ∷ later); attempts = 0 }))

abbrev pub given_back_or : Option Batch → Option Due → Option Due
given_back_or (Some batch) other = Some (GivenBack batch)
given_back_or None other = other

abbrev pub due_at : SeenBook → ℕ → Option Due
due_at b node =
    given_back_or (lowest_of (filter (λ batch. batch.node == node) b.returned)) (oldest b.options.bundle node (queue_at b node))

abbrev pub or_due : SeenBook → Option Due → ℕ → Option Due
or_due b (Some due) node = Some due
or_due b None node = due_at b node

-- the first that is due, in the order of the nodes
abbrev pub first_due : SeenBook → Option Due
first_due b = fold (or_due b) None (offsets 0 (length b.plan.nodes))

-- a job that can be taken, as it is worked from the start, and the book without it
pub record Next : Type 0 where
  pub job : Live
  pub rest : SeenBook

abbrev pub without_due : SeenBook → Due → Next
without_due b (GivenBack batch) = record {
  job = live.Batch batch;
  rest = record b { returned = filter (λ other. not (first_pane other == first_pane batch)) b.returned };
}
without_due b (Oldest batch) = record {
  job = live.Batch batch;
  rest = record b { queues = slice_set b.queues batch.node (drop b.options.bundle (queue_at b batch.node)) };
}

abbrev pub without_first : SeenBook → List Piece → Option Next
without_first b [] = None
without_first b (piece ∷ later) = Some (record { job = live.Span piece None; rest = record b { pending = later } })

-- the job of a key cell, which is worked from then on
abbrev pub key_turn : SeenBook → ℕ → KeyCell → KeyTurn
key_turn b at cell = turn_of at cell (min b.options.bundle (length cell.waiting))

abbrev pub with_key : SeenBook → ℕ → KeyCell → Next
with_key b at cell = record {
  job = live.Key (key_turn b at cell);
  rest = record b { keys = change (with_job b.options.bundle) at b.keys };
}

abbrev pub without_key : SeenBook → Place → Option Next
without_key b place = option_map (with_key b place.at) (slice_get b.keys place.at)

abbrev pub key_or_piece : SeenBook → Option Place → Option Next
key_or_piece b (Some place) = without_key b place
key_or_piece b None = without_first b b.pending

-- the first key cell that has a job, at the marks after the last commit
abbrev pub next_cell : SeenBook → Option Place
next_cell b = next_place (last_marks b) b.keys

abbrev pub due_or_other : SeenBook → Option Due → Option Next
due_or_other b (Some due) = Some (without_due b due)
due_or_other b None = key_or_piece b (next_cell b)

-- The next job. Of panes 0 and 3 waiting at node 3, panes 1 and 2 given back there, and panes waiting at node 6, it is the batch of 1 and 2.
--
-- It goes by kind, and by node only within a kind: with a pane waiting at a Group 6, two elements waiting at the free cell 0 of node 2, and a piece of node 0, a
-- book with bundles of 1 gives the pane first, then cell 0 with its first element. While that job is worked the cell isn't free, so the piece is next.
abbrev pub next_job : SeenBook → Option Next
next_job b = due_or_other b (first_due b)

-- the last position of it that was attempted, of a range
abbrev pub attempted_of : Live → Option ℕ
attempted_of (live.Span piece attempted) = attempted
attempted_of (live.Batch batch) = None
attempted_of (live.Key turn) = None

-- a job as it is handed out
abbrev pub job_of : List Pane → Live → Job
job_of panes (live.Span piece attempted) = job.Span piece
job_of panes (live.Batch batch) = job.Batch batch.node (first_pane batch) (panes_of panes batch.panes) batch.attempts
job_of panes (live.Key turn) = job.Key turn.node turn.cell turn.key turn.span turn.inputs turn.state turn.timers turn.attempts
