-- How a run ends that goes on from a book on one kit alone. The book may be one that no run reached; what is said is what honest steps from it on lead to.
--
-- Of a book with 2 calls that failed, where a job has 3 attempts: where 1 read fails in this call, the run may be given up by it, with a note of 3 attempts. Where
-- none fails, it isn't given up.
use Rattle.std.specs.Prelude.{◌≡◌, ◌⊎◌, ℕ, ◌+◌, ◌≤◌, true, false, [], Option, Some, None}
use Rattle.std.specs.List.{All}
use Rattle.beam_values.specs.Nodes.{has_kind, is_source_kind}
use Rattle.beam_values.specs.Storable.{IsStorable}
use Rattle.beam_values.specs.declared.fault.Cause.TheVariants.{Read}
use Rattle.beam_values.specs.declared.fault.FaultNote.{FaultNote}
use Rattle.beam_values.specs.declared.outcome.Outcome.{Outcome}
use Rattle.beam_values.specs.declared.outcome.StopCause.TheVariants as stop
use Rattle.book_core.specs.Book.{SeenBook, sets_aside}
use Rattle.book_core.specs.Calls.{IsOutcomeOf}
use Rattle.book_core.specs.Jobs.{next_job}
use Rattle.book_core.specs.Steps.{IsIdle, IsRunning}
use Rattle.bundle_work.specs.Bundles.{IsCountedAs}
use Rattle.command_ends.specs.declared.status.Status.{Status}
use Rattle.command_ends.specs.declared.status.Status.TheVariants as status
use Rattle.lone_worker.specs.Alone.{IsRunOn}
use Rattle.run_engine.specs.Kits.{ObservedKits}
use Rattle.run_engine.specs.PlanRun.{surroundings_of}
use Rattle.run_engine.specs.SetAside.{calls_counted, reads_counted}

-- The outcome is the data of a book for which P holds, and to which steps lead from the first one whose fails are all honest. Each call and each read that failed
-- in them was counted.
pub record IsOutcomeAfter (kits : ObservedKits) (first : SeenBook) (P : SeenBook → Type 0) (o : Outcome) : Type 0 where
  pub book : SeenBook
  pub run : IsRunOn (surroundings_of kits) first book
  pub calls : book.calls ≤ first.calls + calls_counted kits
  pub reads : book.reads ≤ first.reads + reads_counted kits
  pub is : P book
  pub of_book : IsOutcomeOf book o
  -- the numbers in panes have 64 bits
  pub storable : All (λ pane. IsStorable pane.element.value) o.panes

-- no job is left
pub record IsFinished (b : SeenBook) : Type 0 where
  pub running : IsRunning b
  pub idle : IsIdle b
  pub none_left : next_job b ≡ None
  pub pending : b.pending ≡ []

-- A fail with this note stopped the book. Where positions are set aside it was a read, or of a node that is no source.
pub record IsStoppedWith (note : FaultNote) (b : SeenBook) : Type 0 where
  pub noted : b.stopped ≡ Some (stop.Spent note)
  pub beside : sets_aside b.plan ≡ true → (note.cause ≡ Read) ⊎ (has_kind is_source_kind b.plan note.node ≡ false)

-- work failed as often as it may, in the first book and in this call together, and the last time it was counted
pub record IsSpentAfter (kits : ObservedKits) (first : SeenBook) (note : FaultNote) : Type 0 where
  pub attempt : note.attempt ≡ first.options.attempts
  pub counted : first.options.attempts ≤ first.calls + first.reads + (calls_counted kits + reads_counted kits)
  pub cause : IsCountedAs kits.shelf kits.store note.cause

-- Ok: no job is left. A work fault: a fail stopped the book, and its data is handed out. Else there was no memory, and nothing is.
abbrev pub IsResumeEnd : ObservedKits → SeenBook → Status → Option Outcome → Type 0
IsResumeEnd kits first status.Ok outcome = (o : Outcome) × (outcome ≡ Some o) × IsOutcomeAfter kits first IsFinished o
IsResumeEnd kits first (status.WorkFault note) outcome =
    ((o : Outcome) × (outcome ≡ Some o) × IsOutcomeAfter kits first (IsStoppedWith note) o) × IsSpentAfter kits first note
IsResumeEnd kits first status.NoMemory outcome = outcome ≡ None
IsResumeEnd kits first _ outcome = ⊥
