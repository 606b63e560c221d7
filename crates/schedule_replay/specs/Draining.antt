-- What is known between the lines of a drain.
use Rattle.std.specs.Prelude.{◌≡◌, ◌<◌, ℕ, Bool, ◌||◌, true, false, List, [], Option, Some, None}
use Rattle.beam_values.specs.declared.file_text.FileText.{FileText}
use Rattle.beam_ports.specs.Observed.{ObservedStore}
use Rattle.chain_exec.specs.Causes.{ObservedShelf}
use Rattle.book_core.specs.Left.{rounds_left}
use Rattle.book_core.specs.Runs.{MadeStep}
use Rattle.lone_worker.specs.Work.{Base}
use Rattle.lone_worker.specs.declared.work.Stage.{Stage}
use Rattle.lone_worker.specs.declared.work.Stage.TheVariants as stage
use Rattle.schedule_words.specs.Told.{told_text}
use Rattle.schedule_words.specs.declared.line.Line.{Line}
use Rattle.schedule_words.specs.declared.line.Line.TheVariants as line
use Rattle.schedule_words.specs.declared.told.Told.TheVariants as answered
use Rattle.schedule_words.specs.declared.told.Took.{Took}
use Rattle.schedule_replay.specs.Drains.{AreDrained, Drained, IsDrainDone, IsDrainedBy, drain_line, stopped_by, works_of}
use Rattle.schedule_replay.specs.Standing.{AreHonest, HasTaken}
use Rattle.schedule_replay.specs.Stands.{Stand, Working, has_job, may_claim, may_run, may_take, work_at}
use Rattle.schedule_replay.specs.Works.{Worked}

-- no slot works, but for the first
abbrev pub OthersRest : Stand → Type 0
OthersRest s = (other : ℕ) → (other ≡ 0 → ⊥) → has_job (work_at s other) ≡ false

abbrev pub is_over : Stage → Bool
is_over stage.Over = true
is_over _ = false

-- nothing more is worked of the job, as of a spent piece
abbrev pub has_ended : Option (Option Working) → Bool
has_ended (Some (Some work)) = is_over work.stage
has_ended _ = false

-- a job goes on: it may be claimed from, run or committed
abbrev pub may_work : Option (Option Working) → Bool
may_work work = may_claim work || (may_run work || has_ended work)

-- a job is committed or failed
abbrev pub ends_job : Line → Bool
ends_job (line.Commit slot) = true
ends_job (line.Fail slot) = true
ends_job _ = false

abbrev pub is_faulted : Stage → Bool
is_faulted (stage.Faulted at cause) = true
is_faulted _ = false

abbrev pub has_failed : Option (Option Working) → Bool
has_failed (Some (Some work)) = is_faulted work.stage
has_failed _ = false

-- lines of a drain were worked, and of the present job so many positions emitted a value before and after them
pub record AreLinesDrained (base : Base) (shelf : ObservedShelf) (store : ObservedStore) (before after : ℕ) (s new : Stand) : Type 0 where
  pub lines : List Drained
  pub drained : AreDrained base.setting.known.told base.setting.options.bundle before s lines after new
  pub honest : AreHonest base shelf store (works_of lines)

-- a job was worked, until it is committed or failed next
pub record IsJobWorked (base : Base) (shelf : ObservedShelf) (store : ObservedStore) (s new : Stand) : Type 0 where
  pub emitted : ℕ
  pub lines : AreLinesDrained base shelf store 0 emitted s new
  pub ends : ends_job (drain_line base.setting.options.bundle emitted (work_at new 0)) ≡ true

-- the line that commits or fails it works nothing
pub record IsLastOfJob (base : Base) (emitted : ℕ) (s new : Stand) : Type 0 where
  pub one : Drained
  pub is : IsDrainedBy base.setting.known.told base.setting.options.bundle emitted s one
  pub stand : one.stand ≡ new
  pub none : one.works ≡ []
  pub same : one.emitted ≡ emitted

-- A job was taken, worked, and committed or failed, whatever the job before it emitted. The slot is free for the next one.
pub record IsJobDone (base : Base) (shelf : ObservedShelf) (store : ObservedStore) (s new : Stand) : Type 0 where
  pub emitted : ℕ
  pub lines : (before : ℕ) → AreLinesDrained base shelf store before emitted s new
  pub free : may_take (work_at new 0) ≡ true
  pub others : OthersRest new
  pub fewer : rounds_left new.book < rounds_left s.book

-- the slot got no job, and this says whether the book is stopped
pub record IsLastTake (told : Option (List FileText)) (s new : Stand) (stopped : Bool) : Type 0 where
  pub what : Took
  pub taken : HasTaken told s new 0 what
  pub ends : stopped_by what ≡ Some stopped

abbrev pub GoesOnOrEnds : Base → ObservedShelf → ObservedStore → Stand → Stand → Option Bool → Type 0
GoesOnOrEnds base shelf store s new None = IsJobDone base shelf store s new
GoesOnOrEnds base shelf store s new (Some stopped) = IsLastTake base.setting.known.told s new stopped

-- the first slot drained the book
pub record HasDrained (base : Base) (shelf : ObservedShelf) (store : ObservedStore) (s new : Stand) (stopped : Bool) : Type 0 where
  pub steps : List MadeStep
  pub works : List Worked
  pub done : IsDrainDone base.setting.known.told s steps works (told_text (answered.Drained stopped)) new
  pub honest : AreHonest base shelf store works
