-- Where a replay stands between two lines: its book, and what each slot works.
use Rattle.std.specs.Prelude.{ℕ, Bool, true, false, nat_lt, List, length, slice_get, Option, Some, None, is_none}
use Rattle.std.specs.List.{list_all}
use Rattle.bundle_commit.specs.declared.job.Job.{Job}
use Rattle.bundle_commit.specs.declared.job.Job.TheVariants as job
use Rattle.book_core.specs.Book.{SeenBook}
use Rattle.lone_worker.specs.Work.{may_claim_in, may_run_in}
use Rattle.lone_worker.specs.declared.work.Stage.{Stage}
use Rattle.lone_worker.specs.declared.work.Stage.TheVariants as stage
use Rattle.schedule_words.specs.declared.line.Line.{Line}
use Rattle.schedule_words.specs.declared.line.Line.TheVariants as line

-- What a slot works: the job as it was taken, and the position of a range that is claimed next.
pub record Working : Type 0 where
  pub job : Job
  pub next : ℕ
  pub stage : Stage

pub record Stand : Type 0 where
  pub book : SeenBook
  -- of each slot what it works, if anything
  pub works : List (Option Working)

abbrev pub work_at : Stand → ℕ → Option (Option Working)
work_at s slot = slice_get s.works slot

abbrev pub has_job : Option (Option Working) → Bool
has_job (Some (Some work)) = true
has_job _ = false

-- ---- which lines are allowed

abbrev pub is_range : Job → Bool
is_range (job.Span piece) = true
is_range _ = false

-- the slot is there and works nothing
abbrev pub may_take : Option (Option Working) → Bool
may_take (Some None) = true
may_take _ = false

abbrev pub may_claim : Option (Option Working) → Bool
may_claim (Some (Some work)) = may_claim_in work.job work.stage
may_claim _ = false

abbrev pub may_run : Option (Option Working) → Bool
may_run (Some (Some work)) = may_run_in work.job work.stage
may_run _ = false

abbrev pub may_commit_in : Job → Stage → Bool
may_commit_in job (stage.Faulted at cause) = false
may_commit_in job stage.Over = true
may_commit_in job stage.Open = is_range job

abbrev pub may_commit : Option (Option Working) → Bool
may_commit (Some (Some work)) = may_commit_in work.job work.stage
may_commit _ = false

-- a job that isn't a spent piece
abbrev pub may_fail_in : Job → Bool
may_fail_in (job.Span piece) = is_none piece.spent
may_fail_in _ = true

abbrev pub may_fail : Option (Option Working) → Bool
may_fail (Some (Some work)) = may_fail_in work.job
may_fail _ = false

abbrev pub is_allowed : Stand → Line → Bool
is_allowed s (line.Take slot) = may_take (work_at s slot)
is_allowed s (line.Claim slot) = may_claim (work_at s slot)
is_allowed s (line.RunJob slot) = may_run (work_at s slot)
is_allowed s (line.Split slot num den) = nat_lt slot (length s.works)
is_allowed s (line.Commit slot) = may_commit (work_at s slot)
is_allowed s (line.Fail slot) = may_fail (work_at s slot)
is_allowed s line.Drain = list_all is_none s.works
