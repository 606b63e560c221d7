-- Runs that go on from a book at rest, which no run need have reached: which take no poison, and what stops them.
--
-- Of a book in which 2 calls failed and no read, where a job has 3 attempts and a piece has failed twice: one read that fails on that piece stops the run, and
-- 3 is no more than 2 and 1. Where none fails, no fault stops it.
use Rattle.std.specs.Prelude.{◌≡◌, ℕ, ◌+◌, ◌≤◌, List, Some}
use Rattle.beam_values.specs.declared.fault.Cause.TheVariants.{Read}
use Rattle.beam_values.specs.declared.fault.FaultNote.{FaultNote}
use Rattle.beam_values.specs.declared.outcome.StopCause.TheVariants as cause
use Rattle.beam_values.specs.declared.plan.Plan.{Plan}
use Rattle.beam_ports.specs.Counts.{Rose}
use Rattle.bundle_commit.specs.declared.job.Job.{Job}
use Rattle.book_core.specs.Book.{SeenBook}
use Rattle.book_core.specs.Runs.{HonestRun, MadeStep}
use Rattle.book_core.specs.Sane.{IsSane}
use Rattle.book_core.specs.Steps.{IsIdle, IsRunning, IsTaking}
use Rattle.book_core.specs.Work.{IsPoisonJob, Surroundings}
use Rattle.ended_runs.specs.Unpoisoned.{IsPoisonBeside}

-- It is sane, no slot works, and it isn't stopped. What a run is opened with is so, and what sane data stands for.
pub record IsAtRest (b : SeenBook) : Type 0 where
  pub sane : IsSane b
  pub idle : IsIdle b
  pub running : IsRunning b

-- ---- what is taken

-- Over these files, no book to which steps lead from this one whose fails are all honest takes a job that is so.
abbrev pub TakesNoAfter : (Plan → Job → Type 0) → Surroundings → SeenBook → Type 0
TakesNoAfter IsBad known first =
    (b new : SeenBook) (steps : List MadeStep) (slot : ℕ) (job : Job) → HonestRun known first steps b → IsTaking b slot job new → IsBad first.plan job → ⊥

abbrev pub TakesNoPoisonAfter : Surroundings → SeenBook → Type 0
TakesNoPoisonAfter known first = TakesNoAfter (IsPoisonJob known.told) known first

-- ranges may be poison
abbrev pub TakesNoPoisonBesideAfter : Surroundings → SeenBook → Type 0
TakesNoPoisonBesideAfter known first = TakesNoAfter IsPoisonBeside known first

-- ---- what stops the run

-- a fault that stopped it was a failed read, and more are counted than in the first book, or as many as can be
abbrev pub IsStoppedByReadAfter : SeenBook → SeenBook → Type 0
IsStoppedByReadAfter first b = (note : FaultNote) → b.stopped ≡ Some (cause.Spent note) → (note.cause ≡ Read) × Rose first.reads b.reads

-- No further call failed; and what stopped it were reads, of which with the fails in the first book at least as many were counted as a job has attempts.
pub record FailsByReads (first b : SeenBook) : Type 0 where
  pub calls : b.calls ≡ first.calls
  pub stopped : IsStoppedByReadAfter first b
  pub attempts : (note : FaultNote) → b.stopped ≡ Some (cause.Spent note) → b.options.attempts ≤ first.calls + b.reads
