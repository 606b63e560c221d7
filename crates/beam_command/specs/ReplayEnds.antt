-- How a replay ends and why one is refused, and how the writing of made lines ends.
use Rattle.std.specs.Prelude.{◌≡◌, ◌⊎◌, ℕ, ◌≤◌, ◌<◌, List, [], ◌∷◌, ◌++◌, length, slice_get, Option, Some}
use Rattle.beam_values.specs.Files.{first_named}
use Rattle.beam_values.specs.Lines.{spread}
use Rattle.beam_values.specs.declared.file_text.FileText.{FileText}
use Rattle.beam_values.specs.declared.options.Options.{Options}
use Rattle.beam_values.specs.declared.piece.FileLen.{FileLen}
use Rattle.beam_values.specs.declared.plan.Plan.{Plan}
use Rattle.beam_model.specs.Positions.{made_line}
use Rattle.beam_ports.specs.Counts.{rise}
use Rattle.beam_ports.specs.Observed.{ObservedSink, ObservedStore, WhereTold}
use Rattle.beam_text.specs.declared.refusal.ScheduleRefusal.{ScheduleRefusal}
use Rattle.beam_text.specs.declared.refusal.ScheduleRefusal.TheVariants as refusal
use Rattle.run_engine.specs.Kits.{ObservedKits}
use Rattle.run_engine.specs.Openings.{IsOpeningRefused}
use Rattle.run_engine.specs.PlanRun.{AreFirstLengths, surroundings_of}
use Rattle.schedule_replay.specs.Replays.{IsReplayed, IsScheduleRefused}
use Rattle.schedule_replay.specs.Works.{Counts}
use Rattle.command_ends.specs.PlanFiles.{IsPlanRefused}
use Rattle.command_ends.specs.ScheduleFiles.{HasLengthOf, IsScheduleUnread, longest_schedule}
use Rattle.command_ends.specs.Writing.{IsWritten}
use Rattle.command_ends.specs.declared.status.Status.{Status}
use Rattle.command_ends.specs.declared.status.Status.TheVariants as status
use Rattle.beam_command.specs.Asking.{IsPlanRead}
use Rattle.beam_command.specs.Observing.{Observed, AreFound, IsUnwritten}

-- ---- what a replay works on, and what it prints

-- where the files are told, this is the text of the first of this name; it is no longer than a schedule may be
pub record IsScheduleRead (files : Option (List FileText)) (name text : List ℕ) : Type 0 where
  pub short : length text ≤ longest_schedule
  pub is : WhereTold files (λ told. first_named name told ≡ Some text)

-- what a replay works on: the plan of the one file, the schedule of the other, and the files that the plan reads, with the lengths of its items
pub record Replayed : Type 0 where
  pub plan : Plan
  pub files : List FileLen
  pub schedule : List ℕ

pub record AreInputsOf (told : Option (List FileText)) (name schedule : List ℕ) (inputs : Replayed) : Type 0 where
  pub plan : IsPlanRead told name inputs.plan
  pub schedule_read : IsScheduleRead told schedule inputs.schedule
  pub found : AreFound told inputs.plan
  pub lengths : AreFirstLengths told inputs.plan inputs.files

-- no more was counted from the one to the other than the kit in use counted in the command
pub record AreCountedIn (kits : ObservedKits) (before after : Counts) : Type 0 where
  pub shelf : rise before.shelf after.shelf ≤ rise kits.shelf.before kits.shelf.after
  pub store : rise before.store after.store ≤ rise kits.store.before kits.store.after

-- the schedule was worked over the plan, and this was printed
abbrev pub IsReplayOf : ObservedKits → Options → Replayed → List ℕ → Type 0
IsReplayOf kits options inputs text =
    (before : Counts) × (after : Counts) × AreCountedIn kits before after
    × IsReplayed (surroundings_of kits) before after inputs.plan inputs.files options inputs.schedule text

-- a line of it is refused for this
abbrev pub IsRefusedOf : ObservedKits → Options → Replayed → ScheduleRefusal → Type 0
IsRefusedOf kits options inputs why =
    (before : Counts) × (after : Counts) × AreCountedIn kits before after
    × IsScheduleRefused (surroundings_of kits) before after inputs.plan inputs.files options inputs.schedule why

-- the text of a replay
pub record IsReplayText (kits : ObservedKits) (name schedule : List ℕ) (options : Options) (text : List ℕ) : Type 0 where
  pub inputs : Replayed
  pub are : AreInputsOf kits.store.files name schedule inputs
  pub is : IsReplayOf kits options inputs text

-- it was written so
abbrev pub IsReplayWritten : Observed → List ℕ → List ℕ → Options → Status → Type 0
IsReplayWritten observed name schedule options s =
    (text : List ℕ) × IsReplayText observed.kits name schedule options text × IsWritten observed.out options.attempts text s

-- ---- why a replay is refused

-- a line of the schedule is none, or isn't allowed where it stands
pub record IsLineBad (kits : ObservedKits) (name schedule : List ℕ) (options : Options) (why : ScheduleRefusal) : Type 0 where
  pub inputs : Replayed
  pub are : AreInputsOf kits.store.files name schedule inputs
  pub refused : IsRefusedOf kits options inputs why

-- the plan was read, and the schedule's file has more bytes than a schedule may have
pub record IsScheduleLong (files : Option (List FileText)) (name schedule : List ℕ) (len : ℕ) : Type 0 where
  pub plan : Plan
  pub read : IsPlanRead files name plan
  pub long : longest_schedule < len
  pub is : WhereTold files (λ told. HasLengthOf told schedule len)

abbrev pub IsScheduleBad : ObservedKits → List ℕ → List ℕ → Options → ScheduleRefusal → Type 0
IsScheduleBad kits name schedule options (refusal.Length len) = IsScheduleLong kits.store.files name schedule len
IsScheduleBad kits name schedule options why = IsLineBad kits name schedule options why

-- the plan was read, and the schedule's file wasn't
abbrev pub IsScheduleMissed : ObservedStore → List ℕ → List ℕ → ℕ → Status → Type 0
IsScheduleMissed first name schedule attempts s = (plan : Plan) × IsPlanRead first.files name plan × IsScheduleUnread first schedule 0 attempts s

-- plan and schedule were read, and a file that the plan reads could not be opened
pub record AreReplaySourcesRefused (stores : List ObservedStore) (first : ObservedStore) (name schedule : List ℕ) (attempts : ℕ) (s : Status) : Type 0 where
  pub plan : Plan
  pub read : IsPlanRead first.files name plan
  pub text : List ℕ
  pub schedule_read : IsScheduleRead first.files schedule text
  pub refused : IsOpeningRefused stores plan attempts 0 s

-- why no line was worked, by what was observed at the store of the kit in use: in this order
abbrev pub IsReplayUnbegun : ObservedKits → List ℕ → List ℕ → ℕ → Status → Type 0
IsReplayUnbegun kits name schedule attempts s =
    (first : ObservedStore) × (slice_get kits.stores 0 ≡ Some first)
    × (IsPlanRefused first name attempts s ⊎ IsScheduleMissed first name schedule attempts s ⊎ AreReplaySourcesRefused kits.stores first name schedule attempts s)

-- One kit is in use, so no file has two lengths. A job that fails as often as it may stops the run, and not the replay.
abbrev pub IsReplayStopped : ObservedKits → List ℕ → List ℕ → Options → Status → Type 0
IsReplayStopped kits name schedule options (status.BadSchedule why) = IsScheduleBad kits name schedule options why
IsReplayStopped kits name schedule options (status.BadPlan refusal) = IsReplayUnbegun kits name schedule options.attempts (status.BadPlan refusal)
IsReplayStopped kits name schedule options (status.NoSource absent) = IsReplayUnbegun kits name schedule options.attempts (status.NoSource absent)
IsReplayStopped kits name schedule options (status.SourceFault kit) = IsReplayUnbegun kits name schedule options.attempts (status.SourceFault kit)
IsReplayStopped kits name schedule options status.NoMemory = Unit {0}
IsReplayStopped kits name schedule options _ = ⊥

-- ---- the end

abbrev pub IsReplayEnd : Observed → List ℕ → List ℕ → Options → Status → Type 0
IsReplayEnd observed name schedule options status.Ok = IsReplayWritten observed name schedule options status.Ok
IsReplayEnd observed name schedule options status.SinkFault = IsReplayWritten observed name schedule options status.SinkFault
IsReplayEnd observed name schedule options s = IsUnwritten observed × IsReplayStopped observed.kits name schedule options s

-- ---- texts that need no run

-- how often a write of the help and of made lines may fail
abbrev pub text_attempts : ℕ
text_attempts = 3

-- so many made lines after a number
abbrev pub made_text : ℕ → ℕ → List ℕ
made_text count number = spread (λ i. made_line number i ++ 10 ∷ []) 0 count

abbrev pub IsMakeEnd : ObservedSink → ℕ → ℕ → Status → Type 0
IsMakeEnd out count number status.Ok = IsWritten out text_attempts (made_text count number) status.Ok
IsMakeEnd out count number status.SinkFault = IsWritten out text_attempts (made_text count number) status.SinkFault
IsMakeEnd out count number status.NoMemory = out.taken_after ≡ out.taken_before
IsMakeEnd out count number _ = ⊥
