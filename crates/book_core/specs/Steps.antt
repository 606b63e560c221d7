-- The steps of a book: enroll, take, claim, split, commit, fail and stop, each a case of one relation. A running worker makes one step in a turn.
use Rattle.std.specs.Prelude.{◌≡◌, ◌≢◌, ◌⊎◌, ℕ, ◌+◌, ◌-◌, ◌<◌, ◌≤◌, Bool, true, false, List, [], ◌∷◌, ◌++◌, length, Option, Some, None}
use Rattle.std.specs.List.{All}
use Rattle.beam_values.specs.Tracking.{MayClaim, first_unattempted, is_granted, split_point_of}
use Rattle.beam_values.specs.declared.fault.Cause.{Cause}
use Rattle.beam_values.specs.declared.fault.FaultNote.{FaultNote}
use Rattle.beam_values.specs.declared.file_text.FileText.{FileText}
use Rattle.beam_values.specs.declared.outcome.StopCause.TheVariants as stop
use Rattle.beam_values.specs.declared.piece.Piece.{Piece}
use Rattle.bundle_commit.specs.declared.job.Job.{Job}
use Rattle.bundle_commit.specs.declared.job.Receipt.{Receipt}
use Rattle.book_core.specs.Book.{SeenBook, places_kept, slot_at, tracker_of, waiting_in}
use Rattle.book_core.specs.Changes.{with_slot, split_off, failed, ends_run, note_of, or_stopped, IsCommit}
use Rattle.book_core.specs.Jobs.{Next, next_job, job_of, attempted_of}
use Rattle.book_core.specs.Work.{IsGiven}
use Rattle.book_core.specs.declared.live.Live.{Live}
use Rattle.book_core.specs.declared.live.Live.TheVariants as live

-- What a slot asks of the book. The receipt of a commit isn't part of the action: there is one in the step.
pub data Action : Type 0 where
  Enroll : Action
  Take : Action
  Claim : ℕ → Action
  Split : ℕ → ℕ → Action
  Commit : Action
  Fail : ℕ → Cause → Action
  Stop : Action

pub data Answer : Type 0 where
  Enrolled : ℕ → Answer
  TakenJob : Job → Answer
  Nothing : Answer
  Finished : Answer
  Stopped : Answer
  Claimed : Bool → Answer
  SplitAt : Option ℕ → Answer
  Committed : Answer
  Retried : Answer
  Spent : FaultNote → Answer
  Noted : Answer
  NoMemory : Answer

-- the slot works nothing
abbrev pub IsFree : SeenBook → ℕ → Type 0
IsFree b slot = slot_at b slot ≡ Some None

abbrev pub IsWorking : SeenBook → ℕ → Live → Type 0
IsWorking b slot job = slot_at b slot ≡ Some (Some job)

-- a job isn't a spent piece, which is committed as it was taken
abbrev pub IsFresh : Live → Type 0
IsFresh (live.Span piece attempted) = piece.spent ≡ None
IsFresh (live.Batch batch) = Unit {0}
IsFresh (live.Key turn) = Unit {0}

-- the slot works this job, and may claim in it, split it or fail it
pub record MayWorkOn (b : SeenBook) (slot : ℕ) (job : Live) : Type 0 where
  pub works : IsWorking b slot job
  pub fresh : IsFresh job

-- no slot works
abbrev pub IsIdle : SeenBook → Type 0
IsIdle b = All (λ slot. slot ≡ None) b.slots

abbrev pub IsRunning : SeenBook → Type 0
IsRunning b = b.stopped ≡ None

-- a live range of the slot can't be split there
abbrev pub IsUnsplit : SeenBook → ℕ → ℕ → ℕ → Type 0
IsUnsplit b slot num den =
    (piece : Piece) (attempted : Option ℕ) → MayWorkOn b slot (live.Span piece attempted)
    → piece.range.to ≤ split_point_of (tracker_of piece attempted) num den

-- ---- limits

-- lists whose places are numbered with 32 bits, the places that are kept counted in
pub record IsWithinLimits (b : SeenBook) : Type 0 where
  pub commits : length b.commits < 4294967295
  pub panes : length b.panes < 4294967295
  pub dropped : length b.dropped < 4294967295
  pub cells : length b.cells < 4294967295
  pub keys : length b.keys < 4294967295
  pub waiting : waiting_in b.keys < 4294967295
  pub slots : length b.slots < 4294967295
  pub pieces : length b.pending + places_kept b < 4294967295

-- ---- what steps change

-- a job is taken: the next one
pub record IsTaking (b : SeenBook) (slot : ℕ) (job : Job) (new : SeenBook) : Type 0 where
  pub running : IsRunning b
  pub free : IsFree b slot
  pub next : Next
  pub is_next : next_job b ≡ Some next
  pub handed : job ≡ job_of b.panes next.job
  pub is : new ≡ with_slot next.rest slot (Some next.job)
  pub within : IsWithinLimits new

pub record IsClaiming (b : SeenBook) (slot p : ℕ) (granted : Bool) (new : SeenBook) : Type 0 where
  pub piece : Piece
  pub attempted : Option ℕ
  pub works : MayWorkOn b slot (live.Span piece attempted)
  pub may : MayClaim (tracker_of piece attempted) p
  pub answer : granted ≡ is_granted (tracker_of piece attempted) p
  pub is : new ≡ with_slot b slot (Some (live.Span piece (Some p)))

pub record IsSplitting (b : SeenBook) (slot num den at : ℕ) (new : SeenBook) : Type 0 where
  pub piece : Piece
  pub attempted : Option ℕ
  pub works : MayWorkOn b slot (live.Span piece attempted)
  pub point : at ≡ split_point_of (tracker_of piece attempted) num den
  pub inside : at < piece.range.to
  pub is : new ≡ split_off b slot piece attempted at

-- the receipt is what the plan gives for the slot's job
pub record CanCommit (told : Option (List FileText)) (b : SeenBook) (slot : ℕ) (receipt : Receipt) : Type 0 where
  pub job : Live
  pub works : IsWorking b slot job
  pub given : IsGiven told b.plan (job_of b.panes job) (attempted_of job) receipt

pub record IsCommitting (told : Option (List FileText)) (b : SeenBook) (slot : ℕ) (receipt : Receipt) (new : SeenBook) : Type 0 where
  pub job : Live
  pub works : IsWorking b slot job
  pub given : IsGiven told b.plan (job_of b.panes job) (attempted_of job) receipt
  pub commit : IsCommit b slot job receipt new

-- whether the job is tried again is what is answered
abbrev pub IsFailure : SeenBook → Live → ℕ → Cause → Answer → Type 0
IsFailure b job at cause Retried = ends_run b job cause ≡ false
IsFailure b job at cause (Spent note) = (ends_run b job cause ≡ true) × (note ≡ note_of job at cause)
IsFailure b job at cause _ = ⊥

pub record IsFailing (b : SeenBook) (slot at : ℕ) (cause : Cause) (answer : Answer) (new : SeenBook) : Type 0 where
  pub job : Live
  pub works : MayWorkOn b slot job
  pub answers : IsFailure b job at cause answer
  pub is : new ≡ failed b slot job at cause

-- ---- the steps

-- From b, this action of a slot may have this answer and lead to that book. `told` are the files, where they are.
abbrev pub Step : Option (List FileText) → SeenBook → ℕ → Action → Answer → SeenBook → Type 0
Step told b slot Enroll (Enrolled number) new =
    (number ≡ length b.slots) × (slot ≡ number) × (new ≡ record b { slots = b.slots ++ None ∷ [] }) × IsWithinLimits new
Step told b slot Take (TakenJob job) new = IsTaking b slot job new
Step told b slot Take Nothing new = IsRunning b × IsFree b slot × (next_job b ≡ None) × (IsIdle b → ⊥) × (new ≡ b)
Step told b slot Take Finished new = IsRunning b × IsFree b slot × (next_job b ≡ None) × IsIdle b × (new ≡ b)
Step told b slot Take Stopped new = (IsRunning b → ⊥) × IsFree b slot × (new ≡ b)
Step told b slot (Claim p) (Claimed granted) new = IsClaiming b slot p granted new
Step told b slot (Split num den) (SplitAt (Some at)) new = IsSplitting b slot num den at new × IsWithinLimits new
Step told b slot (Split num den) (SplitAt None) new = IsUnsplit b slot num den × (new ≡ b)
Step told b slot Commit Committed new = (receipt : Receipt) × IsCommitting told b slot receipt new × IsWithinLimits new
Step told b slot (Fail at cause) answer new = IsFailing b slot at cause answer new
Step told b slot Stop Noted new = new ≡ record b { stopped = or_stopped b.stopped stop.NoMemory }
-- these may find no memory, and change nothing then
Step told b slot Enroll NoMemory new = new ≡ b
Step told b slot Take NoMemory new = IsFree b slot × (new ≡ b)
Step told b slot (Split num den) NoMemory new = new ≡ b
Step told b slot Commit NoMemory new = ((receipt : Receipt) × CanCommit told b slot receipt) × (new ≡ b)
Step told b slot _ _ new = ⊥

-- ---- whose range an idle slot splits

-- a slot works a range that isn't spent and would split at a half
pub record WouldSplit (b : SeenBook) (slot : ℕ) (piece : Piece) (attempted : Option ℕ) : Type 0 where
  pub works : MayWorkOn b slot (live.Span piece attempted)
  pub splits : split_point_of (tracker_of piece attempted) 1 2 < piece.range.to

-- how much of a range lies behind its last attempted position, that position's own offset counted too
abbrev pub left_behind : Piece → Option ℕ → ℕ
left_behind piece attempted = piece.range.to + 1 - first_unattempted piece.range.from attempted

-- of two ranges that would split, the first is chosen: it has more left, or as much and the lower slot
abbrev pub IsBefore : ℕ → ℕ → ℕ → ℕ → Type 0
IsBefore left slot other_left other = (other_left < left) ⊎ ((left ≡ other_left) × (slot ≤ other))

pub record IsMostLeft (b : SeenBook) (slot chosen : ℕ) : Type 0 where
  pub another : chosen ≢ slot
  pub piece : Piece
  pub attempted : Option ℕ
  pub would : WouldSplit b chosen piece attempted
  pub most : (other : ℕ) (third : Piece) (last : Option ℕ) → other ≢ slot → WouldSplit b other third last
      → IsBefore (left_behind piece attempted) chosen (left_behind third last) other

-- the slot whose range an idle one splits at a half: another one, that with the most left, and of these the lowest
abbrev pub IsNextFor : SeenBook → ℕ → Option ℕ → Type 0
IsNextFor b slot (Some chosen) = IsMostLeft b slot chosen
IsNextFor b slot None = (other : ℕ) (piece : Piece) (attempted : Option ℕ) → other ≢ slot → WouldSplit b other piece attempted → ⊥
