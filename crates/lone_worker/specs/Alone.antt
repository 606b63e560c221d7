-- How one worker's work at a book goes on, how it ends, and what is counted of its fails.
use Rattle.std.specs.Prelude.{◌≡◌, ◌⊎◌, ℕ, ◌+◌, ◌<◌, ◌≤◌, List, length, slice_set, Option, Some, None}
use Rattle.std.specs.List.{All}
use Rattle.beam_values.specs.declared.fault.Cause.{Cause}
use Rattle.beam_values.specs.declared.outcome.StopCause.TheVariants as stop
use Rattle.beam_ports.specs.Counts.{Rose, rise}
use Rattle.beam_ports.specs.Observed.{ObservedStore}
use Rattle.book_core.specs.Book.{SeenBook}
use Rattle.book_core.specs.Jobs.{next_job}
use Rattle.book_core.specs.Left.{rounds_left}
use Rattle.book_core.specs.Runs.{HonestRun, MadeStep}
use Rattle.book_core.specs.Steps.{Fail, IsFree, IsIdle, IsRunning}
use Rattle.book_core.specs.Work.{Surroundings}
use Rattle.bundle_work.specs.Bundles.{IsCountedAs}
use Rattle.chain_exec.specs.Causes.{ObservedShelf}
use Rattle.known_jobs.specs.Calls.{calls_after, reads_after}
use Rattle.known_jobs.specs.Jobs.{Setting}
use Rattle.lone_worker.specs.declared.alone.AloneEnd.{AloneEnd}
use Rattle.lone_worker.specs.declared.alone.AloneEnd.TheVariants as end

-- ---- from book to book

-- honest steps lead from one book to another
pub record IsRunOn (known : Surroundings) (b new : SeenBook) : Type 0 where
  pub steps : List MadeStep
  pub run : HonestRun known b steps new

-- a book of this plan, with these lengths and options
pub record IsBookIn (setting : Setting) (b : SeenBook) : Type 0 where
  pub plan : b.plan ≡ setting.plan
  pub files : b.files ≡ setting.files
  pub options : b.options ≡ setting.options

-- no slot works, but for this one
abbrev pub IsIdleBut : SeenBook → ℕ → Type 0
IsIdleBut b slot = All (λ other. other ≡ None) (slice_set b.slots slot None)

-- ---- how many commits were asked for, if any number was; the opening counts in

-- fewer were made
abbrev pub IsShort : Option ℕ → SeenBook → Type 0
IsShort None b = Unit {0}
IsShort (Some most) b = length b.commits < most

-- as many were made
abbrev pub HasAsMany : Option ℕ → SeenBook → Type 0
HasAsMany None b = ⊥
HasAsMany (Some most) b = most ≤ length b.commits

-- and more only where there were more before
abbrev pub IsReachedBy : Option ℕ → SeenBook → SeenBook → Type 0
IsReachedBy None b new = ⊥
IsReachedBy (Some most) b new = (most ≤ length new.commits) × (length b.commits ≤ most → length new.commits ≡ most)

-- ---- how it ends

-- no slot works, and there are as many as before
pub record IsAtRest (b new : SeenBook) : Type 0 where
  pub idle : IsIdle new
  pub slots : length new.slots ≡ length b.slots

-- No job is left, before there were as many commits as were asked for; there are as many; the book was stopped before, and stays as it was; or a fail with this
-- note stopped it, of a job that failed no more often than fails are counted. Of a book in which there was no memory nothing more is said.
abbrev pub IsAloneEnd : Option ℕ → AloneEnd → SeenBook → SeenBook → Type 0
IsAloneEnd most end.Finished b new = IsRunning new × (next_job new ≡ None) × IsAtRest b new × IsShort most new
IsAloneEnd most end.Paused b new = (IsRunning b → IsRunning new) × IsAtRest b new × IsReachedBy most b new
IsAloneEnd most end.Stopped b new = (IsRunning b → ⊥) × (new ≡ b)
IsAloneEnd most (end.Spent note) b new = (new.stopped ≡ Some (stop.Spent note)) × (note.attempt ≤ new.calls + new.reads)
IsAloneEnd most end.NoMemory b new = Unit {0}

-- the slot is free for its next job, no other one works, the book runs on, at most one commit was made, and fewer rounds are left
pub record IsNextRound (slot : ℕ) (b new : SeenBook) : Type 0 where
  pub free : IsFree new slot
  pub rest : IsAtRest b new
  pub running : IsRunning new
  pub commits : length new.commits ≤ length b.commits + 1
  pub fewer : rounds_left new < rounds_left b

-- a round that ends the work makes no commit, and no number of commits ends it
abbrev pub GoesOnOrEnds : ℕ → SeenBook → Option AloneEnd → SeenBook → Type 0
GoesOnOrEnds slot b None new = IsNextRound slot b new
GoesOnOrEnds slot b (Some end) new = IsAloneEnd None end b new × (new.commits ≡ b.commits)

-- ---- what is counted

-- the last fail of what stopped the book was counted
abbrev pub IsStopCounted : ObservedShelf → ObservedStore → Option AloneEnd → Type 0
IsStopCounted shelf store (Some (end.Spent note)) = IsCountedAs shelf store note.cause
IsStopCounted shelf store _ = Unit {0}

-- a number of fails doesn't rise, or by one at most and with a count of faults
abbrev pub RisesWith : ℕ → ℕ → ℕ → ℕ → Type 0
RisesWith fails later before after = (later ≤ fails) ⊎ ((later ≤ fails + 1) × Rose before after)

-- at most one more job failed of each cause, and that was counted
pub record FailsOnce (shelf : ObservedShelf) (store : ObservedStore) (b new : SeenBook) (end : Option AloneEnd) : Type 0 where
  pub calls : RisesWith b.calls new.calls shelf.before shelf.after
  pub reads : RisesWith b.reads new.reads store.before store.after
  pub cause : IsStopCounted shelf store end

-- the fails of a book rise, by their causes, by at most the faults that were counted
pub record AreFailsCounted (shelf : ObservedShelf) (store : ObservedStore) (b new : SeenBook) (end : AloneEnd) : Type 0 where
  pub calls : new.calls ≤ b.calls + rise shelf.before shelf.after
  pub reads : new.reads ≤ b.reads + rise store.before store.after
  pub cause : IsStopCounted shelf store (Some end)

-- ---- what a commit and a fail count

abbrev pub IsUnspent : Option AloneEnd → Type 0
IsUnspent (Some (end.Spent note)) = ⊥
IsUnspent _ = Unit {0}

-- nothing, and no fail stops the book
pub record CountsNone (b new : SeenBook) (end : Option AloneEnd) : Type 0 where
  pub calls : new.calls ≡ b.calls
  pub reads : new.reads ≡ b.reads
  pub unspent : IsUnspent end

abbrev pub IsSpentBy : Cause → Option AloneEnd → Type 0
IsSpentBy cause (Some (end.Spent note)) = note.cause ≡ cause
IsSpentBy cause _ = Unit {0}

-- one fail of this cause at most, and none of another cause stops the book
pub record CountsFail (at : ℕ) (cause : Cause) (b new : SeenBook) (end : Option AloneEnd) : Type 0 where
  pub calls : new.calls ≤ calls_after (Fail at cause) b.calls
  pub reads : new.reads ≤ reads_after (Fail at cause) b.reads
  pub spent : IsSpentBy cause end
