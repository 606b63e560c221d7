-- What holds of a book, of each part of it one record.
use Rattle.std.specs.Prelude.{◌≡◌, ◌⊎◌, ℕ, ◌+◌, ◌*◌, ◌<◌, ◌≤◌, ◌==◌, ℤ, ◌≤ℤ◌, ◌+ℤ◌, Bool, true, false, List, [], ◌∷◌, ◌++◌, length, map, slice_get, count_by, sum_by, Contains, Option, Some, None}
use Rattle.std.specs.List.{All, flat_map}
use Rattle.std.specs.List.Sorted.{IsSorted}
use Rattle.beam_values.specs.Bags.{IsSameBag}
use Rattle.beam_values.specs.Cover.{Place, times_dead, times_done, times_listed, times_pending}
use Rattle.beam_values.specs.Checked.{IsChecked}
use Rattle.beam_values.specs.Nodes.{has_kind, is_source_kind, is_write}
use Rattle.beam_values.specs.Strategies.{greatest_length}
use Rattle.beam_values.specs.Times.{greatest_time, least_time}
use Rattle.beam_values.specs.declared.cell.Pane.{Pane}
use Rattle.beam_values.specs.declared.element.Element.{Element}
use Rattle.beam_values.specs.declared.fault.Cause.TheVariants.{Call, Read}
use Rattle.beam_values.specs.declared.fault.FaultNote.{FaultNote}
use Rattle.beam_values.specs.declared.file_text.FileText.{FileText}
use Rattle.beam_values.specs.declared.outcome.StopCause.{StopCause}
use Rattle.beam_values.specs.declared.outcome.StopCause.TheVariants as cause
use Rattle.beam_values.specs.declared.piece.Piece.{Piece}
use Rattle.beam_model.specs.Account.{arrivals_of}
use Rattle.beam_model.specs.Chains.{Output, Arrives}
use Rattle.beam_model.specs.Coverings.{item_at, spread_dones}
use Rattle.beam_model.specs.Flow.{log_chains, pane_chains}
use Rattle.beam_model.specs.Estimators.{emission_at, observed_times}
use Rattle.beam_model.specs.Holds.{estimator_of}
use Rattle.beam_model.specs.Panes.{Taken, taken_by, ArePanesLegal}
use Rattle.beam_model.specs.Positions.{SourceItem, items}
use Rattle.beam_ports.specs.Counts.{greatest_count}
use Rattle.group_cells.specs.Commits.{HaveGaps, NeverFalls}
use Rattle.stateful_core.specs.Cells.{KeyCell, key_arrivals, logs_of}
use Rattle.stateful_core.specs.Taking.{is_some, turn_of}
use Rattle.stateful_core.specs.Working.{AreWorkedOnce}
use Rattle.stateful_core.specs.declared.key_job.KeyTurn.{KeyTurn}
use Rattle.book_core.specs.Book.{SeenBook, HeldPane, held, panes_of, live_pieces, live_batches, cell_worked, last_marks, sets_aside, AreMarksOfBook}
use Rattle.book_core.specs.Changes.{dead_cmp, done_cmp}
use Rattle.book_core.specs.Runs.{AreOptions, AreLengthsOf}
use Rattle.book_core.specs.Steps.{IsRunning, IsWithinLimits}
use Rattle.book_core.specs.Work.{items_told}
use Rattle.split_core.specs.Order.{IsAscending}
use Rattle.book_core.specs.declared.live.Live.{Live}
use Rattle.book_core.specs.declared.live.Live.TheVariants as live

-- each offset of each item lies in exactly one pending, live or done range or is one dead position, and not both; and no other offset does
pub record ArePartitioned (b : SeenBook) : Type 0 where
  pub times : (place : Place)
      → times_pending (b.pending ++ live_pieces b) place + times_done b.done place + times_dead b.dead place ≡ times_listed b.files place

-- a live range was attempted at its start or behind it, or not at all; a spent piece was attempted nowhere
abbrev pub IsAttemptedWithin : Option Live → Type 0
IsAttemptedWithin (Some (live.Span piece (Some p))) = (piece.range.from ≤ p) × (piece.spent ≡ None)
IsAttemptedWithin _ = Unit {0}

-- There is a commit, each has one pair of marks for each node, the last marks are those of the book, and no mark falls from commit to commit.
pub record AreMarksKept (b : SeenBook) : Type 0 where
  pub some : 1 ≤ length b.commits
  pub sized : All (λ commit. length commit.marks ≡ length b.plan.nodes) b.commits
  pub last : AreMarksOfBook b (last_marks b)
  pub never_fall : NeverFalls b.commits

-- what came to the Groups is legal, and own windows of sessions are as long as the gap
pub record AreCellsKept (b : SeenBook) : Type 0 where
  pub legal : ArePanesLegal b.plan b.commits b.cells b.dropped b.panes
  pub gaps : HaveGaps b.plan (taken_by b.cells)

-- the panes that aren't through are panes of the run, each held at one place at most and at its own Group
abbrev pub is_held_at : ℕ → HeldPane → Bool
is_held_at place held = held.waiting.pane == place

abbrev pub IsHeldPane : SeenBook → HeldPane → Type 0
IsHeldPane b held = (pane : Pane) × (slice_get b.panes held.waiting.pane ≡ Some pane) × (pane.node ≡ held.node)

pub record AreHeldOnce (b : SeenBook) : Type 0 where
  pub panes : All (IsHeldPane b) (held b)
  pub once : (place : ℕ) → count_by (is_held_at place) (held b) ≤ 1
  pub batches : All (λ batch. 1 ≤ length batch.panes) (b.returned ++ live_batches b)

-- the chains of the panes that aren't through
abbrev pub held_chains : SeenBook → List Output
held_chains b = flat_map (λ held. pane_chains b.plan (panes_of b.panes (held.waiting ∷ []))) (held b)

-- Where the files are told: the arrivals, those that wait at key cells or are worked there counted in, and the chains of the panes that aren't through are the
-- outputs of the done ranges, the chains of all panes and those of all logged outputs; and none of them is poison. After a source brought ("a", "x") to a cell
-- at node 2 it waits there; once its job is committed it is in the log instead, the arrival at node 3 that the call brought is new on this side, and the chain
-- of the logged output on that.
abbrev pub IsBalanced : List FileText → SeenBook → Type 0
IsBalanced told b =
    IsSameBag (spread_dones b.plan (items_told (Some told) b.plan) b.done ++ (pane_chains b.plan b.panes ++ log_chains b.plan (logs_of b.keys)))
    (map Arrives (arrivals_of b.cells b.dropped [] b.written ++ key_arrivals b.keys) ++ held_chains b)

-- written elements are at Writes
pub record AreAtWrites (b : SeenBook) : Type 0 where
  pub written : All (λ arrival. is_write b.plan arrival.node ≡ true) b.written

-- Where the files are told: what was seen before a piece is the least time, or what its estimator looked at in a position below its start.
abbrev pub IsSeenBefore : SeenBook → SourceItem → Piece → Type 0
IsSeenBefore b item piece =
    (piece.seen ≡ least_time)
    ⊎ ((p : ℕ) × (p < piece.range.from) × Contains (observed_times (estimator_of b.plan piece.node) (emission_at item p)) piece.seen)

abbrev pub IsSeenOf : SeenBook → Option SourceItem → Piece → Type 0
IsSeenOf b None piece = Unit {0}
IsSeenOf b (Some item) piece = IsSeenBefore b item piece

abbrev pub AreSeenBefore : List FileText → SeenBook → Type 0
AreSeenBefore told b =
    All (λ piece. IsSeenOf b (item_at (items_told (Some told) b.plan) piece.node piece.item) piece) (b.pending ++ live_pieces b)

-- A job that is worked has failed less often than it may, and so has one that isn't worked, unless the book is stopped: then it may have failed as
-- often. This is said of pieces that aren't spent; spent ones have failed as often as they may (`AreSpentWell`). The limit for each dead position and the
-- attempts of all pieces are together no more than the jobs that failed at all, and so are the attempts of each batch and of each key cell by itself.
-- After two calls and a read failed, pieces with 2 and 1 attempts may be there and a key cell with 3, or one piece with 3, but no other piece beside it
-- with 1.
abbrev pub IsBelowLimit : SeenBook → ℕ → Type 0
IsBelowLimit b attempts = attempts < b.options.attempts

pub record AreAttemptsCounted (b : SeenBook) : Type 0 where
  pub worked_pieces : All (λ piece. piece.spent ≡ None → IsBelowLimit b piece.attempts) (live_pieces b)
  pub worked_batches : All (λ batch. IsBelowLimit b batch.attempts) (live_batches b)
  pub worked_keys : All (λ cell. is_some cell.live ≡ true → IsBelowLimit b cell.attempts) b.keys
  pub pending : IsRunning b → All (λ piece. piece.spent ≡ None → IsBelowLimit b piece.attempts) b.pending
  pub returned : IsRunning b → All (λ batch. IsBelowLimit b batch.attempts) b.returned
  pub keys : IsRunning b → All (λ cell. IsBelowLimit b cell.attempts) b.keys
  pub pending_most : All (λ piece. piece.attempts ≤ b.options.attempts) b.pending
  pub returned_most : All (λ batch. batch.attempts ≤ b.options.attempts) b.returned
  pub keys_most : All (λ cell. cell.attempts ≤ b.options.attempts) b.keys
  pub together : b.options.attempts * length b.dead + sum_by (λ piece. piece.attempts) (b.pending ++ live_pieces b) ≤ b.calls + b.reads
  pub keys_failed : All (λ cell. cell.attempts ≤ b.calls + b.reads) b.keys
  pub batches : All (λ batch. batch.attempts ≤ b.calls + b.reads) (b.returned ++ live_batches b)
  pub calls : b.calls ≤ greatest_count
  pub reads : b.reads ≤ greatest_count

-- What stopped the run failed as often as it may. Where positions are set aside that was a read, or the job of a batch or of a key cell, whose node isn't a source.
abbrev pub IsStopNoted : SeenBook → Option StopCause → Type 0
IsStopNoted b (Some (cause.Spent note)) =
    (note.attempt ≡ b.options.attempts)
    × (sets_aside b.plan ≡ true → (note.cause ≡ Read) ⊎ (has_kind is_source_kind b.plan note.node ≡ false))
IsStopNoted b _ = Unit {0}

-- ---- positions that are set aside

-- a spent piece is one position, and failed as often as it may
pub record IsSpentWell (limit : ℕ) (piece : Piece) : Type 0 where
  pub one : piece.range.to ≡ piece.range.from + 1
  pub tried : piece.attempts ≡ limit

abbrev pub IsSpentAs : ℕ → Option FaultNote → Piece → Type 0
IsSpentAs limit None piece = Unit {0}
IsSpentAs limit (Some note) piece = IsSpentWell limit piece

-- Spent pieces are so, and there are fewer dead positions than commits, the opening counted in. With 3 attempts a spent piece `[9, 10)` with 3 attempts is right;
-- with 2 it isn't, nor is `[9, 11)`.
pub record AreSpentWell (b : SeenBook) : Type 0 where
  pub pieces : All (λ piece. IsSpentAs b.options.attempts piece.spent piece) (b.pending ++ live_pieces b)
  pub fewer : length b.dead < length b.commits

-- a call failed, and it was the last attempt
pub record IsLastCall (limit : ℕ) (note : FaultNote) : Type 0 where
  pub cause : note.cause ≡ Call
  pub attempt : note.attempt ≡ limit

abbrev pub IsNotedAs : ℕ → Option FaultNote → Type 0
IsNotedAs limit None = Unit {0}
IsNotedAs limit (Some note) = IsLastCall limit note

-- where no position is set aside
pub record IsNoneAside (b : SeenBook) : Type 0 where
  pub pieces : All (λ piece. piece.spent ≡ None) (b.pending ++ live_pieces b)
  pub dead : b.dead ≡ []

-- Each spent piece and each dead position was noted so when it failed last. A plan of version 1 has none.
pub record AreSetAside (b : SeenBook) : Type 0 where
  pub pieces : All (λ piece. IsNotedAs b.options.attempts piece.spent) (b.pending ++ live_pieces b)
  pub dead : All (λ d. IsLastCall b.options.attempts d.note) b.dead
  pub none : sets_aside b.plan ≡ false → IsNoneAside b

-- A slot works the job of a key cell as the cell has it: it was handed out so, and stays so while it is worked, since what waits at the cell stays in front.
pub record IsTurnOf (keys : List KeyCell) (turn : KeyTurn) : Type 0 where
  pub cell : KeyCell
  pub count : ℕ
  pub is_at : slice_get keys turn.cell ≡ Some cell
  pub works : cell.live ≡ Some count
  pub is : turn ≡ turn_of turn.cell cell count

abbrev pub HasTurn : List KeyCell → Option Live → Type 0
HasTurn keys (Some (live.Key turn)) = IsTurnOf keys turn
HasTurn keys _ = Unit {0}

-- Each key cell that is worked is worked by one slot, and no other is. With the cells 0 and 1 live, slots that work cell 1, a piece and cell 0 are right; two
-- slots that work cell 1 are not, and neither is a slot that works a cell which is free.
pub record AreTurnsKept (b : SeenBook) : Type 0 where
  pub once : AreWorkedOnce cell_worked b.slots b.keys
  pub turns : All (HasTurn b.keys) b.slots

-- what doesn't change while a run goes on, and the lists that are kept in order
pub record IsWellFormed (b : SeenBook) : Type 0 where
  pub checked : IsChecked b.plan
  pub allowed : AreOptions b.options
  pub lengths : AreLengthsOf (items [] b.plan) b.files
  pub queues : length b.queues ≡ length b.plan.nodes
  pub ascending : IsAscending b.pending
  pub done : IsSorted done_cmp b.done
  pub dead : IsSorted dead_cmp b.dead
  pub within : IsWithinLimits b

-- ---- windows end early: no later than one of the longest that begins at the greatest time

abbrev pub greatest_end : ℤ
greatest_end = greatest_time +ℤ greatest_length

abbrev pub EndsEarly : Taken → Type 0
EndsEarly t = t.element.span.end ≤ℤ greatest_end

abbrev pub IsEarly : Element → Type 0
IsEarly e = (e.time ≤ℤ greatest_time) × (e.span.end ≤ℤ greatest_end)

abbrev pub IsEarlyPane : Pane → Type 0
IsEarlyPane pane = IsEarly pane.element

-- the window of a key cell, and what waits there
pub record IsEarlyCell (cell : KeyCell) : Type 0 where
  pub span : cell.log.span.end ≤ℤ greatest_end
  pub waiting : All (λ waiting. waiting.element.time ≤ℤ greatest_time) cell.waiting

pub record IsEarlyBook (b : SeenBook) : Type 0 where
  pub taken : All EndsEarly (taken_by b.cells)
  pub panes : All IsEarlyPane b.panes
  pub keys : All IsEarlyCell b.keys

-- ---- together

-- of every reached book
pub record AreKept (b : SeenBook) : Type 0 where
  pub partitioned : ArePartitioned b
  pub attempted : All IsAttemptedWithin b.slots
  pub marks : AreMarksKept b
  pub cells : AreCellsKept b
  pub held : AreHeldOnce b
  pub writes : AreAtWrites b
  pub attempts : AreAttemptsCounted b
  pub aside : AreSetAside b
  pub formed : IsWellFormed b
  pub stop : IsStopNoted b b.stopped

-- and where the files are told
pub record AreKeptOf (told : List FileText) (b : SeenBook) : Type 0 where
  pub balanced : IsBalanced told b
  pub seen : AreSeenBefore told b
