-- What the calls of a book ask and answer, in the words of its steps.
use Rattle.std.specs.Prelude.{◌≡◌, ℕ, List, Option, Some, None}
use Rattle.std.specs.List.Sorted.{IsPermutation, IsSorted}
use Rattle.beam_values.specs.Cells.{cell_cmp}
use Rattle.beam_values.specs.Tracking.{MayClaim}
use Rattle.beam_values.specs.declared.file_text.FileText.{FileText}
use Rattle.beam_values.specs.declared.outcome.Outcome.{Outcome}
use Rattle.beam_values.specs.declared.piece.Piece.{Piece}
use Rattle.beam_model.specs.Rendering.{log_cmp}
use Rattle.stateful_core.specs.Cells.{logs_of}
use Rattle.book_core.specs.Book.{SeenBook, slot_at, tracker_of}
use Rattle.book_core.specs.Steps.{Action, Answer, TakenJob, Nothing, Finished, Stopped, Retried, Spent, Step, MayWorkOn}
use Rattle.book_core.specs.declared.live.Failure.{Failure}
use Rattle.book_core.specs.declared.live.Failure.TheVariants as failure
use Rattle.book_core.specs.declared.live.Live.{Live}
use Rattle.book_core.specs.declared.live.Live.TheVariants as live
use Rattle.book_core.specs.declared.live.Taken.{Taken}
use Rattle.book_core.specs.declared.live.Taken.TheVariants as taken

-- the slot works a range whose tracker may claim the position
pub record CanClaim (b : SeenBook) (slot p : ℕ) : Type 0 where
  pub piece : Piece
  pub attempted : Option ℕ
  pub works : MayWorkOn b slot (live.Span piece attempted)
  pub may : MayClaim (tracker_of piece attempted) p

-- the slot works something that may fail
abbrev pub CanFail : SeenBook → ℕ → Type 0
CanFail b slot = (job : Live) × MayWorkOn b slot job

-- a step whatever the files are
abbrev pub Makes : SeenBook → ℕ → Action → Answer → SeenBook → Type 0
Makes b slot action answer new = (told : Option (List FileText)) → Step told b slot action answer new

abbrev pub answer_of : Taken → Answer
answer_of (taken.Job job) = TakenJob job
answer_of taken.Nothing = Nothing
answer_of taken.Finished = Finished
answer_of taken.Stopped = Stopped

abbrev pub failure_of : Failure → Answer
failure_of failure.Retry = Retried
failure_of (failure.Spent note) = Spent note

-- the live piece of a slot, with its present range
abbrev pub piece_in : Option (Option Live) → Option Piece
piece_in (Some (Some (live.Span piece attempted))) = Some piece
piece_in _ = None

abbrev pub live_piece : SeenBook → ℕ → Option Piece
live_piece b slot = piece_in (slot_at b slot)

-- an outcome is the book's own data; its cells stand in their order, and its logs, those of all key cells, by node, key bytes and window
pub record IsOutcomeOf (b : SeenBook) (o : Outcome) : Type 0 where
  pub plan : o.plan ≡ b.plan
  pub files : o.files ≡ b.files
  pub done : o.done ≡ b.done
  pub dead : o.dead ≡ b.dead
  pub cells : IsPermutation b.cells o.cells
  pub cells_in_order : IsSorted cell_cmp o.cells
  pub panes : o.panes ≡ b.panes
  pub dropped : o.dropped ≡ b.dropped
  pub logs : IsPermutation (logs_of b.keys) o.logs
  pub logs_in_order : IsSorted log_cmp o.logs
  pub written : o.written ≡ b.written
  pub commits : o.commits ≡ b.commits
  pub stopped : o.stopped ≡ b.stopped
