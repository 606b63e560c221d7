-- What is left of a run, as a list of numbers that are compared from the front. A take and a commit lower it where a position was attempted or set aside, the
-- range was empty, panes went on, or a key job was done; a take and a fail lower it always, but for a fail that breaks an empty range. Marks move behind the job's
-- node alone, so no pane fires at that node or before it, under any trigger.
--
-- Of a source 0, a Group 1 with early 2 and a Write 2, over one file of 27 bytes and with 3 attempts: 80, 0, 0, 3 is left at the opening and after the take of
-- `[0, 27)`. A commit behind the position 9 that fires a pane leaves 50, 1, 0, 6; the pane is taken, and a fail leaves 50, 1, 0, 5; its commit leaves 50, 0, 0, 3.
--
-- With a node 1 that gives the values of a window by two, in place of the Group, that commit brings two elements of one key to it and leaves 50, 18, 0, 6: nine for
-- each, and the attempts of the piece and of the key cell. A fail of the job of both leaves 50, 18, 0, 5. Its commit takes nine for each off, sets no timer, since
-- the batch is full, and the cell has all its attempts again: 50, 0, 0, 6 is left.
--
-- Where positions are set aside, a call that fails on `[0, 19)` at 9 for the third time leaves 26, 2 and 26 for its three parts in place of 56; the part `[9, 10)`
-- has 1 once it is spent, and 0 once it is set aside.
use Rattle.std.specs.Prelude.{◌≡◌, ◌⊎◌, ℕ, ◌+◌, ◌*◌, ◌-◌, ◌<◌, ◌≤◌, ◌==◌, true, List, [], ◌∷◌, ◌++◌, length, map, max, fold, sum_by, filter, Option, Some, None}
use Rattle.beam_values.specs.Lines.{offsets}
use Rattle.beam_values.specs.declared.fault.Cause.{Cause}
use Rattle.beam_values.specs.declared.fault.FaultNote.{FaultNote}
use Rattle.beam_values.specs.declared.piece.Piece.{Piece}
use Rattle.stateful_core.specs.Cells.{KeyCell}
use Rattle.stateful_core.specs.Lasting.{left_of}
use Rattle.book_core.specs.Book.{SeenBook, live_pieces, live_batches, held, queued}
use Rattle.book_core.specs.Changes.{is_broken}
use Rattle.book_core.specs.Steps.{IsWorking}
use Rattle.book_core.specs.declared.live.Batch.{Batch}
use Rattle.book_core.specs.declared.live.Live.{Live}
use Rattle.book_core.specs.declared.live.Live.TheVariants as live

-- Three for each offset of a piece that has offsets, less one: the parts of a broken range have less together. One of an empty piece, and of a spent one.
abbrev pub left_of_size : Option FaultNote → ℕ → ℕ
left_of_size None size = max 1 (3 * size - 1)
left_of_size (Some note) size = 1

abbrev pub left_in : Piece → ℕ
left_in piece = left_of_size piece.spent (piece.range.to - piece.range.from)

-- of a node: the pieces of a source, the panes of a Group, and the elements and timers of key cells, nine for each element and one for each timer
abbrev pub left_at : SeenBook → ℕ → ℕ
left_at b node =
    sum_by left_in (filter (λ piece. piece.node == node) (b.pending ++ live_pieces b))
    + length (filter (λ pane. pane.node == node) (held b))
    + sum_by left_of (filter (λ cell. cell.log.node == node) b.keys)

abbrev pub left_of_piece : ℕ → Piece → ℕ
left_of_piece limit piece = limit - piece.attempts

abbrev pub left_of_batch : ℕ → Batch → ℕ
left_of_batch limit batch = limit - batch.attempts

abbrev pub left_of_cell : ℕ → KeyCell → ℕ
left_of_cell limit cell = limit - cell.attempts

-- the attempts that remain of pieces, batches and key cells, and of each pane that is in no batch all that are allowed
abbrev pub attempts_left : SeenBook → ℕ
attempts_left b =
    sum_by (left_of_piece b.options.attempts) (b.pending ++ live_pieces b)
    + sum_by (left_of_batch b.options.attempts) (b.returned ++ live_batches b)
    + b.options.attempts * length (queued b)
    + sum_by (left_of_cell b.options.attempts) b.keys

-- node after node, and then the attempts
abbrev pub left : SeenBook → List ℕ
left b = map (left_at b) (offsets 0 (length b.plan.nodes)) ++ attempts_left b ∷ []

-- one list of numbers is below another of the same length: the first number that differs is lower
abbrev pub IsBelow : List ℕ → List ℕ → Type 0
IsBelow [] [] = ⊥
IsBelow (m ∷ ms) (n ∷ ns) = (m < n) ⊎ ((m ≡ n) × IsBelow ms ns)
IsBelow _ _ = ⊥

-- ---- which commits lower it

-- a job goes on when it is committed: a position of its range was attempted, or there is none, or it is a spent piece, a batch or a key job
abbrev pub GoesOn : Live → Type 0
GoesOn (live.Span piece None) = piece.spent ≡ None → piece.range.to ≤ piece.range.from
GoesOn (live.Span piece (Some p)) = Unit {0}
GoesOn (live.Batch batch) = Unit {0}
GoesOn (live.Key turn) = Unit {0}

abbrev pub GoesOnAt : SeenBook → ℕ → Type 0
GoesOnAt b slot = (job : Live) → IsWorking b slot job → GoesOn job

-- ---- which fails lower it

-- the job has an offset, if it is a range
abbrev pub HasOffsets : Live → Type 0
HasOffsets (live.Span piece attempted) = piece.range.from < piece.range.to
HasOffsets (live.Batch batch) = Unit {0}
HasOffsets (live.Key turn) = Unit {0}

-- A fail of the slot breaks no empty range: such a one would be pending again as it was, with all attempts before it. Who fails behind a claim that was granted
-- breaks none.
abbrev pub BreaksNoEmpty : SeenBook → ℕ → Cause → Type 0
BreaksNoEmpty b slot cause = (job : Live) → IsWorking b slot job → is_broken b job cause ≡ true → HasOffsets job

-- ---- how many rounds there can be

abbrev pub all_lengths : SeenBook → ℕ
all_lengths b = sum_by (λ file. file.len) b.files

-- No number of what is left comes near, since pieces, panes, key cells and what waits there are numbered with 32 bits, and a key cell has at most eight timers.
-- It stays through a run.
abbrev pub above_each : SeenBook → ℕ
above_each b = 4294967296 * (3 * all_lengths b + 4 * b.options.attempts + 20)

-- So many rounds of a take and a commit, or a take and a fail that breaks no empty range, are left at most: what is left, read as the digits of one number.
abbrev pub rounds_left : SeenBook → ℕ
rounds_left b = fold (λ rounds digit. above_each b * rounds + digit) 0 (left b)
