-- Why a run was given up: the fault that stopped it was met, and the job that met it had failed as often as it may.
use Rattle.std.specs.Prelude.{◌≡◌, ℕ, List}
use Rattle.beam_values.specs.declared.fault.FaultNote.{FaultNote}
use Rattle.book_core.specs.Book.{SeenBook}
use Rattle.book_core.specs.Changes.{note_of}
use Rattle.book_core.specs.Jobs.{attempted_of, job_of}
use Rattle.book_core.specs.Runs.{HonestRun, HonestlyReached, MadeStep}
use Rattle.book_core.specs.Steps.{IsWorking}
use Rattle.book_core.specs.Work.{Surroundings, IsHonest}
use Rattle.book_core.specs.declared.live.Live.{Live}

-- In an earlier book of the run a slot worked a job; it is of that job that the note tells, and its fail was honest. It was the last attempt that the job had.
pub record IsHonestStop (known : Surroundings) (b : SeenBook) (note : FaultNote) : Type 0 where
  pub before : SeenBook
  pub reached : HonestlyReached known before
  pub steps : List MadeStep
  pub onward : HonestRun known before steps b
  pub plan : before.plan ≡ b.plan
  pub slot : ℕ
  pub job : Live
  pub works : IsWorking before slot job
  pub tells : note ≡ note_of job note.at note.cause
  pub honest : IsHonest known before.plan (job_of before.panes job) (attempted_of job) note.at note.cause
  pub spent : note.attempt ≡ b.options.attempts
