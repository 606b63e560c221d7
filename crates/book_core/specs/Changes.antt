-- What each step changes in the book. What a definition doesn't name stays.
use Rattle.std.specs.Prelude.{◌≡◌, ℕ, ◌+◌, ◌-◌, ◌==◌, Bool, true, false, not, ◌&&◌, nat_le, nat_lt, if◌then◌else◌, List, [], ◌∷◌, ◌++◌, length, map, min, slice_set, Option, Some, None}
use Rattle.std.specs.List.{filter, enumerate_from}
use Rattle.std.specs.declared.cmp.Ordering.{Ordering}
use Rattle.std.specs.Ordering.{on, then_cmp, nat_cmp, is_lt}
use Rattle.beam_values.specs.Nodes.{is_write}
use Rattle.beam_values.specs.Intervals.{Offsets}
use Rattle.beam_values.specs.declared.arrival.Arrival.{Arrival}
use Rattle.beam_values.specs.declared.cell.Cell.{Cell}
use Rattle.beam_values.specs.declared.cell.Pane.{Pane}
use Rattle.beam_values.specs.declared.fault.Cause.{Cause}
use Rattle.beam_values.specs.declared.fault.Cause.TheVariants.{Call, Read}
use Rattle.beam_values.specs.declared.fault.FaultNote.{FaultNote}
use Rattle.beam_values.specs.declared.marks.StageMarks.{StageMarks}
use Rattle.beam_values.specs.declared.outcome.StopCause.{StopCause}
use Rattle.beam_values.specs.declared.outcome.StopCause.TheVariants as stop
use Rattle.beam_values.specs.declared.piece.Dead.{Dead}
use Rattle.beam_values.specs.declared.piece.Done.{Done}
use Rattle.beam_values.specs.declared.piece.Piece.{Piece}
use Rattle.beam_values.specs.declared.plan.Plan.{Plan}
use Rattle.beam_model.specs.Holds.{pane_hold}
use Rattle.beam_ports.specs.Counts.{raised}
use Rattle.bundle_commit.specs.declared.job.Logged.{Logged}
use Rattle.bundle_commit.specs.declared.job.Receipt.{Receipt}
use Rattle.group_cells.specs.Commits.{AreRounds, as_commit, dropped_arrival, is_dropped}
use Rattle.split_core.specs.Order.{with_piece, with_pieces}
use Rattle.stateful_core.specs.Cells.{KeyCell}
use Rattle.stateful_core.specs.KeyWork.{numbered_entry}
use Rattle.stateful_core.specs.Placing.{Done as KeyDone, place}
use Rattle.stateful_core.specs.Taking.{change, tried}
use Rattle.book_core.specs.Book.{SeenBook, last_marks, sets_aside, AreMarksOfBook}
use Rattle.book_core.specs.Jobs.{first_pane}
use Rattle.book_core.specs.Work.{worked_to}
use Rattle.book_core.specs.declared.live.Batch.{Batch}
use Rattle.book_core.specs.declared.live.Live.{Live}
use Rattle.book_core.specs.declared.live.Live.TheVariants as live
use Rattle.book_core.specs.declared.live.WaitingPane.{WaitingPane}

-- a slot works this, or nothing
abbrev pub with_slot : SeenBook → ℕ → Option Live → SeenBook
with_slot b slot job = record b { slots = slice_set b.slots slot job }

-- ---- parts of a range

-- a piece with another range
abbrev pub cut_to : Piece → Offsets → Piece
cut_to piece range = record piece { range = range }

-- a part of a range, as what is left behind a split: never tried, with what was seen when its piece was taken
abbrev pub rest_of : Piece → Offsets → Piece
rest_of piece range = record piece { range = range; attempts = 0 }

-- a live range is split: it goes on up to there, and the rest is pending
abbrev pub split_off : SeenBook → ℕ → Piece → Option ℕ → ℕ → SeenBook
split_off b slot piece attempted at =
    record (with_slot b slot (Some (live.Span (cut_to piece (record { from = piece.range.from; to = at })) attempted))) {
      pending = with_piece (rest_of piece (record { from = at; to = piece.range.to })) b.pending;
    }

-- ---- fails

-- a job as it is given back, with one more attempt, a range with its present end
abbrev pub tried_piece : Piece → Piece
tried_piece piece = record piece { attempts = piece.attempts + 1 }

abbrev pub tried_batch : Batch → Batch
tried_batch batch = record batch { attempts = batch.attempts + 1 }

-- where it failed and why don't matter
abbrev pub given_back : SeenBook → Live → ℕ → Cause → SeenBook
given_back b (live.Span piece attempted) at cause = record b { pending = with_piece (tried_piece piece) b.pending }
given_back b (live.Batch batch) at cause = record b { returned = b.returned ++ tried_batch batch ∷ [] }
given_back b (live.Key turn) at cause = record b { keys = change tried turn.cell b.keys }

abbrev pub attempts_of : Live → ℕ
attempts_of (live.Span piece attempted) = piece.attempts
attempts_of (live.Batch batch) = batch.attempts
attempts_of (live.Key turn) = turn.attempts

-- how a fail is noted: of a range by its item, of a batch by its first pane, and of a key job by the number of its cell
abbrev pub note_of : Live → ℕ → Cause → FaultNote
note_of (live.Span piece attempted) at cause =
    record { node = piece.node; item = piece.item; at = at; attempt = piece.attempts + 1; cause = cause }
note_of (live.Batch batch) at cause =
    record { node = batch.node; item = first_pane batch; at = at; attempt = batch.attempts + 1; cause = cause }
note_of (live.Key turn) at cause =
    record { node = turn.node; item = turn.cell; at = at; attempt = turn.attempts + 1; cause = cause }

-- one more fail brings a job to the limit of its attempts
abbrev pub is_at_limit : SeenBook → Live → Bool
is_at_limit b job = nat_le b.options.attempts (attempts_of job + 1)

-- the first cause of a stop is kept
abbrev pub or_stopped : Option StopCause → StopCause → Option StopCause
or_stopped (Some kept) new = Some kept
or_stopped None new = Some new

abbrev pub counted : SeenBook → Cause → SeenBook
counted b Call = record b { calls = raised b.calls }
counted b Read = record b { reads = raised b.reads }

abbrev pub stopped_where : Bool → SeenBook → FaultNote → SeenBook
stopped_where true b note = record b { stopped = or_stopped b.stopped (stop.Spent note) }
stopped_where false b note = b

-- a call failed on a range of a plan that sets positions aside
abbrev pub may_break : Plan → Live → Cause → Bool
may_break plan (live.Span piece attempted) Call = sets_aside plan
may_break plan _ _ = false

-- a fail breaks the range: it is at its limit, and a call failed where positions are set aside
abbrev pub is_broken : SeenBook → Live → Cause → Bool
is_broken b job cause = is_at_limit b job && may_break b.plan job cause

-- a fail ends the run: the job is given up
abbrev pub ends_run : SeenBook → Live → Cause → Bool
ends_run b job cause = is_at_limit b job && not (may_break b.plan job cause)

-- the job is given back, and the book stopped where that ends the run
abbrev pub tried_again : SeenBook → ℕ → Live → ℕ → Cause → SeenBook
tried_again b slot job at cause =
    stopped_where (ends_run b job cause) (counted (given_back (with_slot b slot None) job at cause) cause) (note_of job at cause)

-- The position of a range that is tried alone: the last attempted one, the first where none was attempted, and the last of the range where the last attempted
-- one lies past it.
abbrev pub blamed : Piece → Option ℕ → ℕ
blamed piece None = piece.range.from
blamed piece (Some p) = min p (piece.range.to - 1)

-- a part that has offsets, never tried
abbrev pub part_of : Piece → ℕ → ℕ → List Piece
part_of piece from to = if nat_lt from to then rest_of piece (record { from = from; to = to }) ∷ [] else []

-- what lies before a position, the position alone, and what lies behind it
abbrev pub cut_around : Piece → ℕ → List Piece
cut_around piece at = part_of piece piece.range.from at ++ (part_of piece at (at + 1) ++ part_of piece (at + 1) piece.range.to)

-- one position whose range failed as often as it may, and how it failed last
abbrev pub spent_piece : Piece → FaultNote → Piece
spent_piece piece note = record piece { attempts = piece.attempts + 1; spent = Some note }

-- What becomes of a range that is broken: of one position a spent piece, of several the parts around the one that failed, and of none a range that was never
-- tried. `[0, 19)` with 9 attempted last is broken into `[0, 9)`, `[9, 10)` and `[10, 19)`, each with 0 attempts; `[9, 10)` with 2 attempts of 3 is spent, with 3.
abbrev pub broken_parts : Piece → Option ℕ → FaultNote → List Piece
broken_parts piece attempted note =
    if nat_lt (piece.range.from + 1) piece.range.to then cut_around piece (blamed piece attempted)
    else (if nat_lt piece.range.from piece.range.to then spent_piece piece note ∷ [] else rest_of piece piece.range ∷ [])

-- a call failed on a range, which is broken
abbrev pub broken : SeenBook → ℕ → Piece → Option ℕ → FaultNote → SeenBook
broken b slot piece attempted note =
    record (with_slot b slot None) { pending = with_pieces (broken_parts piece attempted note) b.pending; calls = raised b.calls }

abbrev pub failed_where : Bool → SeenBook → ℕ → Live → ℕ → Cause → SeenBook
failed_where true b slot (live.Span piece attempted) at cause = broken b slot piece attempted (note_of (live.Span piece attempted) at cause)
failed_where _ b slot job at cause = tried_again b slot job at cause

abbrev pub failed : SeenBook → ℕ → Live → ℕ → Cause → SeenBook
failed b slot job at cause = failed_where (is_broken b job cause) b slot job at cause

-- ---- commits

-- the order of the ranges of an outcome
abbrev pub done_cmp : Done → Done → Ordering
done_cmp =
    then_cmp (on (λ d. d.node) nat_cmp)
    (then_cmp (on (λ d. d.item) nat_cmp)
    (then_cmp (on (λ d. d.range.from) nat_cmp) (on (λ d. d.range.to) nat_cmp)))

-- a range is put behind those that are lower
abbrev pub with_done : Done → List Done → List Done
with_done new [] = new ∷ []
with_done new (d ∷ done) = if is_lt (done_cmp d new) then d ∷ with_done new done else new ∷ d ∷ done

-- the range that a commit does: the whole, or up to the checkpoint right behind the last attempted position
abbrev pub done_of : Piece → Option ℕ → Done
done_of piece attempted =
    record { node = piece.node; item = piece.item; range = record { from = piece.range.from; to = worked_to piece attempted } }

-- the residual of a committed piece: never tried, with what its bundle has seen
abbrev pub residual_of : Piece → Option ℕ → Receipt → Option Piece
residual_of piece attempted receipt =
    if nat_lt (worked_to piece attempted) piece.range.to
    then Some (record piece { range = record { from = worked_to piece attempted; to = piece.range.to }; seen = receipt.seen; attempts = 0 })
    else None

abbrev pub with_residual : Option Piece → List Piece → List Piece
with_residual None pending = pending
with_residual (Some piece) pending = with_piece piece pending

-- the order of dead positions
abbrev pub dead_cmp : Dead → Dead → Ordering
dead_cmp = then_cmp (on (λ d. d.node) nat_cmp) (then_cmp (on (λ d. d.item) nat_cmp) (on (λ d. d.at) nat_cmp))

-- a dead position is put behind those that are lower
abbrev pub with_dead : Dead → List Dead → List Dead
with_dead new [] = new ∷ []
with_dead new (d ∷ dead) = if is_lt (dead_cmp d new) then d ∷ with_dead new dead else new ∷ d ∷ dead

-- the position of a spent piece, and how it failed
abbrev pub dead_of : Piece → FaultNote → Dead
dead_of piece note = record { node = piece.node; item = piece.item; at = piece.range.from; note = note }

-- the source side of a commit: the position of a spent piece is set aside, and of any other piece a range is done
abbrev pub done_with : Option FaultNote → Piece → Option ℕ → List Done → List Done
done_with None piece attempted done = with_done (done_of piece attempted) done
done_with (Some note) piece attempted done = done

abbrev pub dead_with : Option FaultNote → Piece → List Dead → List Dead
dead_with None piece dead = dead
dead_with (Some note) piece dead = with_dead (dead_of piece note) dead

abbrev pub pending_with : Option FaultNote → Piece → Option ℕ → Receipt → List Piece → List Piece
pending_with None piece attempted receipt pending = with_residual (residual_of piece attempted receipt) pending
pending_with (Some note) piece attempted receipt pending = pending

abbrev pub done_after : List Done → Live → List Done
done_after done (live.Span piece attempted) = done_with piece.spent piece attempted done
done_after done (live.Batch batch) = done
done_after done (live.Key turn) = done

abbrev pub dead_after : List Dead → Live → List Dead
dead_after dead (live.Span piece attempted) = dead_with piece.spent piece dead
dead_after dead (live.Batch batch) = dead
dead_after dead (live.Key turn) = dead

abbrev pub pending_after : List Piece → Live → Receipt → List Piece
pending_after pending (live.Span piece attempted) receipt = pending_with piece.spent piece attempted receipt pending
pending_after pending (live.Batch batch) receipt = pending
pending_after pending (live.Key turn) receipt = pending

-- the panes that a commit fired wait, each with its hold: the greater of its time and the mark after its Group before the commit
abbrev pub as_waiting : List StageMarks → (ℕ × Pane) → WaitingPane
as_waiting before (place, pane) = record { pane = place; hold = (pane_hold before pane).mark }

abbrev pub fired_at : ℕ → List (ℕ × Pane) → List (ℕ × Pane)
fired_at node fired = filter (λ numbered. numbered.1.node == node) fired

-- each queue with the panes of its node behind it
abbrev pub with_fired : List StageMarks → List (ℕ × Pane) → (ℕ × List WaitingPane) → List WaitingPane
with_fired before fired (node, queue) = queue ++ map (as_waiting before) (fired_at node fired)

abbrev pub queues_after : SeenBook → List Pane → List (List WaitingPane)
queues_after b fired = map (with_fired (last_marks b) (enumerate_from (length b.panes) fired)) (enumerate_from 0 b.queues)

-- arrivals at Writes are written
abbrev pub written_by : SeenBook → Receipt → List Arrival
written_by b receipt = filter (λ arrival. is_write b.plan arrival.node) receipt.arrivals

-- what a key job leaves: the state and timers after its calls, and their entries, under the number of its commit
abbrev pub key_done_of : ℕ → ℕ → Option Logged → Option KeyDone
key_done_of commit cell None = None
key_done_of commit cell (Some logged) = Some (record {
  cell = cell;
  kept = record { cells = logged.state; timers = logged.timers };
  entries = map (numbered_entry commit) logged.entries;
})

abbrev pub key_done : ℕ → Live → Option Logged → Option KeyDone
key_done commit (live.Span piece attempted) logged = None
key_done commit (live.Batch batch) logged = None
key_done commit (live.Key turn) logged = key_done_of commit turn.cell logged

-- The key job is done, and then arrivals at Stateful nodes wait at their key cells, with holds by the marks before the commit. Where cell 0 has the elements at
-- 1000, 1200 and 3000 waiting, of which a job has the first two, and commit 4 brings no arrival to a Stateful node, the third is left; two entries with the
-- commit 4 stand behind those of the cell's log, it is free, and has 0 attempts.
abbrev pub keys_after : SeenBook → Live → Receipt → List KeyCell
keys_after b job receipt = place b.plan (last_marks b) (key_done (length b.commits) job receipt.logged) receipt.arrivals b.keys

-- the book after a commit that left these cells, fired these panes and has these marks
abbrev pub committed : SeenBook → ℕ → Live → Receipt → List Cell → List Pane → List StageMarks → SeenBook
committed b slot job receipt cells fired marks = record (with_slot b slot None) {
  pending = pending_after b.pending job receipt;
  queues = queues_after b fired;
  cells = cells;
  dropped = b.dropped ++ map (dropped_arrival (length b.commits)) (filter (is_dropped b.plan (last_marks b)) receipt.arrivals);
  keys = keys_after b job receipt;
  panes = b.panes ++ fired;
  done = done_after b.done job;
  dead = dead_after b.dead job;
  written = b.written ++ written_by b receipt;
  commits = b.commits ++ as_commit marks ∷ [];
}

-- A commit places a receipt in one round of each Group and key, and its marks are those of the book after it. That rounds lose no entry and keep what is legal
-- are laws of theirs.
pub record IsCommit (b : SeenBook) (slot : ℕ) (job : Live) (receipt : Receipt) (new : SeenBook) : Type 0 where
  pub cells : List Cell
  pub fired : List Pane
  pub marks : List StageMarks
  pub is : new ≡ committed b slot job receipt cells fired marks
  pub marked : AreMarksOfBook new marks
  pub rounds : AreRounds b.plan (length b.commits) (last_marks b) marks receipt.arrivals b.cells cells fired
