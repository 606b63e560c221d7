-- A job as who works it knows it, while others may shorten its range.
use Rattle.std.specs.Prelude.{◌≡◌, ℕ, ◌<◌, ◌≤◌, List, length, Option, Some, None}
use Rattle.std.specs.List.{All}
use Rattle.beam_values.specs.Tracking.{first_unattempted}
use Rattle.beam_values.specs.declared.cell.Pane.{Pane}
use Rattle.beam_values.specs.declared.options.Options.{Options}
use Rattle.beam_values.specs.declared.piece.FileLen.{FileLen}
use Rattle.beam_values.specs.declared.piece.Piece.{Piece}
use Rattle.beam_values.specs.declared.plan.Plan.{Plan}
use Rattle.bundle_commit.specs.declared.job.Job.{Job}
use Rattle.bundle_commit.specs.declared.job.Job.TheVariants as job
use Rattle.book_core.specs.Book.{SeenBook, slot_at}
use Rattle.book_core.specs.Changes.{cut_to}
use Rattle.book_core.specs.Jobs.{attempted_of, job_of}
use Rattle.book_core.specs.Work.{Surroundings}
use Rattle.book_core.specs.declared.live.Batch.{Batch}
use Rattle.book_core.specs.declared.live.Live.{Live}
use Rattle.book_core.specs.declared.live.Live.TheVariants as live

-- what is known outside the book, and what the book was opened with
pub record Setting : Type 0 where
  pub known : Surroundings
  pub plan : Plan
  pub files : List FileLen
  pub options : Options

-- of this book
abbrev pub setting_for : Surroundings → SeenBook → Setting
setting_for known b = record { known = known; plan = b.plan; files = b.files; options = b.options }

-- A job as it is known, of a range the end that it had when that was last looked at; and the last position that was attempted.
pub record KnownJob : Type 0 where
  pub job : Job
  pub attempted : Option ℕ

-- A range that is known, and the same range now: others may have split it, behind what was attempted. Of `[0, 100)` with 49 attempted, that is a range
-- `[0, to)` with `to` from 50 to 100; with 100 attempted it is `[0, 100)`.
pub record IsShortened (noted : Piece) (attempted : Option ℕ) (now : Piece) : Type 0 where
  pub same : now ≡ cut_to noted (record { from = noted.range.from; to = now.range.to })
  pub below : now.range.to ≤ noted.range.to
  pub above : first_unattempted noted.range.from attempted ≤ noted.range.to → first_unattempted noted.range.from attempted ≤ now.range.to
  pub past : noted.range.to < first_unattempted noted.range.from attempted → now.range.to ≡ noted.range.to

-- each pane of the batch is in the list
abbrev pub AreAllFired : List Pane → Batch → Type 0
AreAllFired panes batch = All (λ waiting. waiting.pane < length panes) batch.panes

-- what a slot works is the job that is known
abbrev pub IsKnownAs : List Pane → KnownJob → Live → Type 0
IsKnownAs panes known (live.Span now attempted) =
    (noted : Piece) × (known ≡ record { job = job.Span noted; attempted = attempted }) × IsShortened noted attempted now
IsKnownAs panes known (live.Batch batch) =
    (known ≡ record { job = job_of panes (live.Batch batch); attempted = None }) × AreAllFired panes batch
IsKnownAs panes known (live.Key turn) = known ≡ record { job = job_of panes (live.Key turn); attempted = None }

-- a job is known where the slot works one
abbrev pub IsJobOf : List Pane → Option KnownJob → Option (Option Live) → Type 0
IsJobOf panes None (Some None) = Unit {0}
IsJobOf panes (Some known) (Some (Some now)) = IsKnownAs panes known now
IsJobOf panes _ _ = ⊥

-- the job as the book has it
abbrev pub known_in : List Pane → Option (Option Live) → Option KnownJob
known_in panes (Some (Some live)) = Some (record { job = job_of panes live; attempted = attempted_of live })
known_in panes _ = None

abbrev pub known_at : SeenBook → ℕ → Option KnownJob
known_at b slot = known_in b.panes (slot_at b slot)
