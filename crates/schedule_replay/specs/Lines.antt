-- What a line of a schedule does where it is allowed: one step of the book at most, one work at most, and a line that is printed.
use Rattle.std.specs.Prelude.{◌≡◌, ℕ, ◌-◌, Bool, true, false, List, [], ◌∷◌, length, slice_set, Option, Some, None, is_some}
use Rattle.beam_values.specs.declared.fault.Cause.TheVariants as cause
use Rattle.beam_values.specs.declared.file_text.FileText.{FileText}
use Rattle.bundle_commit.specs.declared.job.Job.{Job}
use Rattle.bundle_commit.specs.declared.job.Job.TheVariants as job
use Rattle.book_core.specs.Book.{SeenBook}
use Rattle.book_core.specs.Runs.{MadeStep}
use Rattle.book_core.specs.Steps.{Action, Answer, Claim, Claimed, Commit, Committed, Fail, Finished, Nothing, Retried, Spent, Split, SplitAt, Step, Stopped, Take, TakenJob}
use Rattle.known_jobs.specs.Jobs.{known_at}
use Rattle.lone_worker.specs.Work.{IsNextOfJob, first_of, first_stage}
use Rattle.lone_worker.specs.declared.work.Stage.{Stage}
use Rattle.lone_worker.specs.declared.work.Stage.TheVariants as stage
use Rattle.schedule_words.specs.Told.{told_text}
use Rattle.schedule_words.specs.declared.line.Line.{Line}
use Rattle.schedule_words.specs.declared.line.Line.TheVariants as line
use Rattle.schedule_words.specs.declared.told.Claimed.{Claimed as ClaimTold}
use Rattle.schedule_words.specs.declared.told.Claimed.TheVariants as claimed
use Rattle.schedule_words.specs.declared.told.Told.TheVariants as answered
use Rattle.schedule_words.specs.declared.told.Took.{Took}
use Rattle.schedule_words.specs.declared.told.Took.TheVariants as took
use Rattle.schedule_replay.specs.Stands.{Stand, Working, work_at}
use Rattle.schedule_replay.specs.Works.{Fault, Worked}

-- ---- a step

-- the book makes one step, and that is all that is made
pub record IsStepMade (told : Option (List FileText)) (slot : ℕ) (action : Action) (answer : Answer) (b new : SeenBook) (steps : List MadeStep) : Type 0 where
  pub step : Step told b slot action answer new
  pub made : steps ≡ record { slot = slot; action = action; answer = answer } ∷ []

-- ---- take

abbrev pub took_job : Job → Took
took_job (job.Span piece) = took.Range piece.node piece.item piece.range
took_job (job.Batch node first panes attempts) = took.Batch node (length panes)
took_job (job.Key node cell key span inputs state timers attempts) = took.Key node (length inputs)

-- what a take answers, of which want of memory is no answer of a line
abbrev pub took_of : Answer → Option Took
took_of (TakenJob job) = Some (took_job job)
took_of Nothing = Some took.Nothing
took_of Finished = Some took.Finished
took_of Stopped = Some took.Stopped
took_of _ = None

-- what the slot works then: a spent piece is committed next
abbrev pub work_of : Answer → Option Working
work_of (TakenJob job) = Some (record { job = job; next = first_of job; stage = first_stage job })
work_of _ = None

pub record IsTakeDone (told : Option (List FileText)) (s : Stand) (slot : ℕ) (answer : Answer) (what : Took) (steps : List MadeStep) (works : List Worked) (text : List ℕ) (new : Stand) : Type 0 where
  pub made : IsStepMade told slot Take answer s.book new.book steps
  pub none : works ≡ []
  pub later : new.works ≡ slice_set s.works slot (work_of answer)
  pub is : took_of answer ≡ Some what
  pub printed : text ≡ told_text (answered.Taken slot what)

-- ---- claim

-- a slot worked its job as the book has it now, and that ended so
abbrev pub IsWorkOf : SeenBook → ℕ → Option Fault → Worked → Type 0
IsWorkOf b slot fault work = (known_at b slot ≡ Some (record { job = work.job; attempted = work.attempted })) × (work.fault ≡ fault)

abbrev pub stage_of : Option Fault → Stage
stage_of None = stage.Over
stage_of (Some fault) = stage.Faulted fault.at fault.cause

-- what came of a position that was granted, and what the slot works then
abbrev pub IsWorkedOn : Option (List FileText) → SeenBook → Working → Option Fault → ClaimTold → Working → Type 0
IsWorkedOn told b work None what later =
    (what ≡ claimed.Worked) × (next : ℕ) × IsNextOfJob told b.plan b.files work.job work.next next × (later ≡ record work { next = next })
IsWorkedOn told b work (Some fault) what later = (what ≡ claimed.Faulted) × (later ≡ record work { stage = stage.Faulted fault.at fault.cause })

abbrev pub IsClaimed : Option (List FileText) → SeenBook → ℕ → Working → Bool → List Worked → ClaimTold → Working → Type 0
IsClaimed told b slot work false works what later = (works ≡ []) × (what ≡ claimed.Refused) × (later ≡ record work { stage = stage.Over })
IsClaimed told b slot work true works what later =
    (fault : Option Fault) × (one : Worked) × (works ≡ one ∷ []) × IsWorkOf b slot fault one × IsWorkedOn told b work fault what later

pub record IsClaimDone (told : Option (List FileText)) (s : Stand) (slot : ℕ) (steps : List MadeStep) (works : List Worked) (text : List ℕ) (new : Stand) : Type 0 where
  pub work : Working
  pub has : work_at s slot ≡ Some (Some work)
  pub granted : Bool
  pub made : IsStepMade told slot (Claim work.next) (Claimed granted) s.book new.book steps
  pub what : ClaimTold
  pub later : Working
  pub came : IsClaimed told new.book slot work granted works what later
  pub after : new.works ≡ slice_set s.works slot (Some later)
  pub printed : text ≡ told_text (answered.Claim slot work.next what)

-- ---- run

-- no step is made
pub record IsRunDone (s : Stand) (slot : ℕ) (steps : List MadeStep) (works : List Worked) (text : List ℕ) (new : Stand) : Type 0 where
  pub work : Working
  pub has : work_at s slot ≡ Some (Some work)
  pub fault : Option Fault
  pub one : Worked
  pub worked : works ≡ one ∷ []
  pub is : IsWorkOf s.book slot fault one
  pub none : steps ≡ []
  pub same : new.book ≡ s.book
  pub after : new.works ≡ slice_set s.works slot (Some (record work { stage = stage_of fault }))
  pub printed : text ≡ told_text (answered.Ran slot (is_some fault))

-- ---- split

pub record IsSplitDone (told : Option (List FileText)) (s : Stand) (slot num den : ℕ) (steps : List MadeStep) (works : List Worked) (text : List ℕ) (new : Stand) : Type 0 where
  pub at : Option ℕ
  pub made : IsStepMade told slot (Split num den) (SplitAt at) s.book new.book steps
  pub none : works ≡ []
  pub same : new.works ≡ s.works
  pub printed : text ≡ told_text (answered.Split slot at)

-- ---- commit

-- the panes that the commit fired and the elements that it dropped are counted
pub record IsCommitDone (told : Option (List FileText)) (s : Stand) (slot : ℕ) (steps : List MadeStep) (works : List Worked) (text : List ℕ) (new : Stand) : Type 0 where
  pub made : IsStepMade told slot Commit Committed s.book new.book steps
  pub none : works ≡ []
  pub after : new.works ≡ slice_set s.works slot None
  pub printed : text ≡ told_text (answered.Committed slot (length new.book.panes - length s.book.panes) (length new.book.dropped - length s.book.dropped))

-- ---- fail

abbrev pub node_of : Job → ℕ
node_of (job.Span piece) = piece.node
node_of (job.Batch node first panes attempts) = node
node_of (job.Key node cell key span inputs state timers attempts) = node

-- a job is failed with the fault that its work met, and else as a call of its own node
abbrev pub fault_of : Job → Stage → Fault
fault_of job (stage.Faulted at cause) = record { at = at; cause = cause }
fault_of job _ = record { at = node_of job; cause = cause.Call }

abbrev pub spent_by : Answer → Option Bool
spent_by Retried = Some false
spent_by (Spent note) = Some true
spent_by _ = None

pub record IsFailDone (told : Option (List FileText)) (s : Stand) (slot : ℕ) (steps : List MadeStep) (works : List Worked) (text : List ℕ) (new : Stand) : Type 0 where
  pub work : Working
  pub has : work_at s slot ≡ Some (Some work)
  pub answer : Answer
  pub made : IsStepMade told slot (Fail (fault_of work.job work.stage).at (fault_of work.job work.stage).cause) answer s.book new.book steps
  pub none : works ≡ []
  pub after : new.works ≡ slice_set s.works slot None
  pub spent : Bool
  pub is : spent_by answer ≡ Some spent
  pub printed : text ≡ told_text (answered.Failed slot spent)

-- ---- a line, but for a drain

abbrev pub IsOneDone : Option (List FileText) → Stand → Line → List MadeStep → List Worked → List ℕ → Stand → Type 0
IsOneDone told s (line.Take slot) steps works text new = (answer : Answer) × (what : Took) × IsTakeDone told s slot answer what steps works text new
IsOneDone told s (line.Claim slot) steps works text new = IsClaimDone told s slot steps works text new
IsOneDone told s (line.RunJob slot) steps works text new = IsRunDone s slot steps works text new
IsOneDone told s (line.Split slot num den) steps works text new = IsSplitDone told s slot num den steps works text new
IsOneDone told s (line.Commit slot) steps works text new = IsCommitDone told s slot steps works text new
IsOneDone told s (line.Fail slot) steps works text new = IsFailDone told s slot steps works text new
IsOneDone told s line.Drain steps works text new = ⊥
