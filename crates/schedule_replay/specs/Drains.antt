-- A drain: lines of the first slot, worked one after another as if they stood in the schedule, of which only the last answer is printed.
use Rattle.std.specs.Prelude.{◌≡◌, ℕ, ◌+◌, Bool, true, false, nat_lt, if◌then◌else◌, List, [], ◌∷◌, ◌++◌, Option, Some, None}
use Rattle.beam_values.specs.declared.file_text.FileText.{FileText}
use Rattle.beam_values.specs.declared.plan.Plan.{Plan}
use Rattle.bundle_commit.specs.declared.job.Job.{Job}
use Rattle.bundle_commit.specs.declared.job.Job.TheVariants as job
use Rattle.book_core.specs.Runs.{MadeStep}
use Rattle.book_core.specs.Steps.{Answer}
use Rattle.lone_worker.specs.Work.{IsEmittedBy}
use Rattle.lone_worker.specs.declared.work.Stage.{Stage}
use Rattle.lone_worker.specs.declared.work.Stage.TheVariants as stage
use Rattle.schedule_words.specs.Told.{told_text}
use Rattle.schedule_words.specs.declared.line.Line.{Line}
use Rattle.schedule_words.specs.declared.line.Line.TheVariants as line
use Rattle.schedule_words.specs.declared.told.Told.TheVariants as answered
use Rattle.schedule_words.specs.declared.told.Took.{Took}
use Rattle.schedule_words.specs.declared.told.Took.TheVariants as took
use Rattle.schedule_replay.specs.Lines.{IsOneDone, IsTakeDone}
use Rattle.schedule_replay.specs.Stands.{Stand, Working, has_job, is_allowed, work_at}
use Rattle.schedule_replay.specs.Works.{Fault, Worked}

-- ---- which line is next

-- Of a job that goes on: a range is claimed until as many positions as are in a bundle emitted a value; a batch and a key job are run.
abbrev pub line_of_job : ℕ → ℕ → Job → Line
line_of_job bundle emitted (job.Span piece) = if nat_lt emitted bundle then line.Claim 0 else line.Commit 0
line_of_job bundle emitted _ = line.RunJob 0

abbrev pub line_of_stage : ℕ → ℕ → Job → Stage → Line
line_of_stage bundle emitted job stage.Open = line_of_job bundle emitted job
line_of_stage bundle emitted job stage.Over = line.Commit 0
line_of_stage bundle emitted job (stage.Faulted at cause) = line.Fail 0

-- the next line, where so many positions of the slot's job emitted a value
abbrev pub drain_line : ℕ → ℕ → Option (Option Working) → Line
drain_line bundle emitted (Some (Some work)) = line_of_stage bundle emitted work.job work.stage
drain_line bundle emitted _ = line.Take 0

-- ---- how many positions emitted a value

abbrev pub and_one : ℕ → Bool → ℕ
and_one count more = if more then count + 1 else count

-- one more than before where the position that was worked emits a value
pub record IsOneMore (told : Option (List FileText)) (plan : Plan) (work : Working) (before after : ℕ) : Type 0 where
  pub emitted : Bool
  pub is : IsEmittedBy told plan work.job work.next emitted
  pub counted : after ≡ and_one before emitted

abbrev pub AreEmittedBy : Option (List FileText) → Plan → Working → Option Fault → ℕ → ℕ → Type 0
AreEmittedBy told plan work None before after = IsOneMore told plan work before after
AreEmittedBy told plan work (Some fault) before after = after ≡ before

abbrev pub AreEmittedOver : Option (List FileText) → Plan → Option (Option Working) → List Worked → ℕ → ℕ → Type 0
AreEmittedOver told plan (Some (Some work)) (one ∷ []) before after = AreEmittedBy told plan work one.fault before after
AreEmittedOver told plan _ _ before after = after ≡ before

-- a job that is taken begins with none, and claims count
abbrev pub AreEmitted : Option (List FileText) → Plan → Option (Option Working) → Line → List Worked → ℕ → ℕ → Type 0
AreEmitted told plan work (line.Take slot) works before after = after ≡ 0
AreEmitted told plan work (line.Claim slot) works before after = AreEmittedOver told plan work works before after
AreEmitted told plan work _ works before after = after ≡ before

-- ---- its lines

-- one of them: what it did, and where the replay stands behind it
pub record Drained : Type 0 where
  pub steps : List MadeStep
  pub works : List Worked
  pub text : List ℕ
  pub stand : Stand
  pub emitted : ℕ

-- a take among them got a job
abbrev pub HasGot : Line → Stand → Type 0
HasGot (line.Take slot) s = has_job (work_at s slot) ≡ true
HasGot _ s = Unit {0}

pub record IsDrainedBy (told : Option (List FileText)) (bundle emitted : ℕ) (s : Stand) (one : Drained) : Type 0 where
  pub allowed : is_allowed s (drain_line bundle emitted (work_at s 0)) ≡ true
  pub done : IsOneDone told s (drain_line bundle emitted (work_at s 0)) one.steps one.works one.text one.stand
  pub got : HasGot (drain_line bundle emitted (work_at s 0)) one.stand
  pub counted : AreEmitted told s.book.plan (work_at s 0) (drain_line bundle emitted (work_at s 0)) one.works emitted one.emitted

-- these lead from one stand to another, where as many positions emitted a value then as are told last
abbrev pub AreDrained : Option (List FileText) → ℕ → ℕ → Stand → List Drained → ℕ → Stand → Type 0
AreDrained told bundle emitted s [] last end = (last ≡ emitted) × (end ≡ s)
AreDrained told bundle emitted s (one ∷ later) last end = IsDrainedBy told bundle emitted s one × AreDrained told bundle one.emitted one.stand later last end

abbrev pub steps_of : List Drained → List MadeStep
steps_of [] = []
steps_of (one ∷ later) = one.steps ++ steps_of later

abbrev pub works_of : List Drained → List Worked
works_of [] = []
works_of (one ∷ later) = one.works ++ works_of later

-- what the last take got says how it ended
abbrev pub stopped_by : Took → Option Bool
stopped_by took.Finished = Some false
stopped_by took.Stopped = Some true
stopped_by _ = None

-- It ends with a take that gets no job, since none is left or the book is stopped.
pub record IsDrainDone (told : Option (List FileText)) (s : Stand) (steps : List MadeStep) (works : List Worked) (text : List ℕ) (new : Stand) : Type 0 where
  pub lines : List Drained
  pub mid : Stand
  pub emitted : ℕ
  pub drained : AreDrained told s.book.options.bundle 0 s lines emitted mid
  pub answer : Answer
  pub what : Took
  pub last_steps : List MadeStep
  pub last_text : List ℕ
  pub last : IsTakeDone told mid 0 answer what last_steps [] last_text new
  pub stopped : Bool
  pub ends : stopped_by what ≡ Some stopped
  pub made : steps ≡ steps_of lines ++ last_steps
  pub worked : works ≡ works_of lines
  pub printed : text ≡ told_text (answered.Drained stopped)
