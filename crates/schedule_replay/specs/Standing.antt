-- What holds where a replay stands, and what a line that was worked leaves.
use Rattle.std.specs.Prelude.{◌≡◌, ℕ, ◌<◌, ◌≤◌, Bool, true, not, List, [], length, slice_get, Option, Some, None}
use Rattle.bundle_commit.specs.declared.job.Job.{Job}
use Rattle.bundle_commit.specs.declared.job.Job.TheVariants as job
use Rattle.beam_values.specs.declared.file_text.FileText.{FileText}
use Rattle.book_core.specs.Runs.{MadeStep}
use Rattle.book_core.specs.Steps.{Answer}
use Rattle.chain_exec.specs.Causes.{ObservedShelf}
use Rattle.beam_ports.specs.Observed.{ObservedStore}
use Rattle.known_jobs.specs.Calls.{IsJobIn}
use Rattle.known_jobs.specs.Jobs.{KnownJob, known_at}
use Rattle.lone_worker.specs.Alone.{IsBookIn}
use Rattle.lone_worker.specs.Work.{Base, IsWorkAt}
use Rattle.lone_worker.specs.declared.work.Stage.{Stage}
use Rattle.lone_worker.specs.declared.work.Stage.TheVariants as stage
use Rattle.lone_worker.specs.declared.work.Work.{Work}
use Rattle.lone_worker.specs.declared.work.ClaimEnd.{ClaimEnd}
use Rattle.lone_worker.specs.declared.work.ClaimEnd.TheVariants as claim
use Rattle.schedule_words.specs.Told.{told_text}
use Rattle.schedule_words.specs.declared.line.Line.{Line}
use Rattle.schedule_words.specs.declared.told.Claimed.{Claimed}
use Rattle.schedule_words.specs.declared.told.Claimed.TheVariants as claimed
use Rattle.schedule_words.specs.declared.told.Told.TheVariants as answered
use Rattle.schedule_words.specs.declared.told.Took.{Took}
use Rattle.schedule_replay.specs.Drains.{AreEmittedOver, and_one}
use Rattle.schedule_replay.specs.Lines.{IsClaimDone, IsCommitDone, IsFailDone, IsRunDone, IsSplitDone, IsTakeDone}
use Rattle.schedule_replay.specs.Replays.{IsLineDone}
use Rattle.schedule_replay.specs.Stands.{Stand, may_fail_in, work_at}
use Rattle.schedule_replay.specs.Works.{AreHonestWorks, Counts, Worked}
use Rattle.schedule_replay.specs.declared.stand.Stand.{Stand as Stood}

-- what failed is no spent piece, since nothing is worked of one
abbrev pub IsFailable : Job → Stage → Type 0
IsFailable job (stage.Faulted at cause) = may_fail_in job ≡ true
IsFailable job _ = Unit {0}

-- what is noted of a slot's work is so in the book
abbrev pub IsSlotAt : Base → Option KnownJob → Option (Option Work) → Type 0
IsSlotAt base known None = Unit {0}
IsSlotAt base known (Some None) = known ≡ None
IsSlotAt base known (Some (Some work)) = IsWorkAt base known work × IsJobIn base.setting work.job × IsFailable work.job work.stage

-- what is noted of each slot is so in the book, which is of this plan
pub record IsStanding (base : Base) (stood : Stood) : Type 0 where
  pub inside : IsBookIn base.setting stood.book
  pub count : length stood.works.items ≡ length stood.book.slots
  pub some : 0 < length stood.works.items
  pub each : (slot : ℕ) → IsSlotAt base (known_at stood.book slot) (slice_get stood.works.items slot)

-- the counts of faults before a call and after it
abbrev pub counts_before : ObservedShelf → ObservedStore → Counts
counts_before shelf store = record { shelf = shelf.before; store = store.before }

abbrev pub counts_after : ObservedShelf → ObservedStore → Counts
counts_after shelf store = record { shelf = shelf.after; store = store.after }

-- works of a call were honest, and what was counted in it covers them
abbrev pub AreHonest : Base → ObservedShelf → ObservedStore → List Worked → Type 0
AreHonest base shelf store works = AreHonestWorks base.setting.known (counts_before shelf store) (counts_after shelf store) base.setting.plan works

-- the ends of a range are in order
abbrev pub IsOrdered : Job → Type 0
IsOrdered (job.Span piece) = piece.range.from ≤ piece.range.to
IsOrdered _ = Unit {0}

-- ---- what each call did

-- a slot asked for a job, and got this
pub record HasTaken (told : Option (List FileText)) (s new : Stand) (slot : ℕ) (what : Took) : Type 0 where
  pub answer : Answer
  pub steps : List MadeStep
  pub done : IsTakeDone told s slot answer what steps [] (told_text (answered.Taken slot what)) new

abbrev pub claimed_of : ClaimEnd → Claimed
claimed_of claim.Refused = claimed.Refused
claimed_of (claim.Worked emitted) = claimed.Worked
claimed_of claim.Faulted = claimed.Faulted

-- how many positions have emitted a value after the claim
abbrev pub emitted_after : ℕ → ClaimEnd → ℕ
emitted_after before (claim.Worked emitted) = and_one before emitted
emitted_after before _ = before

-- it claimed this position
pub record HasClaimed (base : Base) (shelf : ObservedShelf) (store : ObservedStore) (s new : Stand) (slot p : ℕ) (end : ClaimEnd) : Type 0 where
  pub steps : List MadeStep
  pub works : List Worked
  pub done : IsClaimDone base.setting.known.told s slot steps works (told_text (answered.Claim slot p (claimed_of end))) new
  pub what : done.what ≡ claimed_of end
  pub honest : AreHonest base shelf store works
  pub counted : (before : ℕ) → AreEmittedOver base.setting.known.told s.book.plan (work_at s slot) works before (emitted_after before end)

-- it ran its job
pub record HasRun (base : Base) (shelf : ObservedShelf) (store : ObservedStore) (s new : Stand) (slot : ℕ) (worked : Bool) : Type 0 where
  pub works : List Worked
  pub done : IsRunDone s slot [] works (told_text (answered.Ran slot (not worked))) new
  pub honest : AreHonest base shelf store works

pub record HasSplit (told : Option (List FileText)) (s new : Stand) (slot num den : ℕ) (at : Option ℕ) : Type 0 where
  pub steps : List MadeStep
  pub done : IsSplitDone told s slot num den steps [] (told_text (answered.Split slot at)) new

pub record HasCommitted (told : Option (List FileText)) (s new : Stand) (slot panes drops : ℕ) : Type 0 where
  pub steps : List MadeStep
  pub done : IsCommitDone told s slot steps [] (told_text (answered.Committed slot panes drops)) new

pub record HasFailed (told : Option (List FileText)) (s new : Stand) (slot : ℕ) (spent : Bool) : Type 0 where
  pub steps : List MadeStep
  pub done : IsFailDone told s slot steps [] (told_text (answered.Failed slot spent)) new

-- a line was worked
pub record IsWorked (base : Base) (shelf : ObservedShelf) (store : ObservedStore) (s new : Stand) (line : Line) (text : List ℕ) : Type 0 where
  pub steps : List MadeStep
  pub works : List Worked
  pub done : IsLineDone base.setting.known.told s line steps works text new
  pub honest : AreHonest base shelf store works
