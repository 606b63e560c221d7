-- How a command must end where little or nothing outside fails: then the files decide.
use Rattle.std.specs.Prelude.{◌≡◌, ◌⊎◌, true, false, ℕ, ◌+◌, ◌<◌, ◌≤◌, List, Option, Some, None, IsSome}
use Rattle.beam_values.specs.Files.{first_named}
use Rattle.beam_values.specs.declared.fault.Cause.TheVariants.{Call}
use Rattle.beam_values.specs.declared.fault.FaultNote.{FaultNote}
use Rattle.beam_values.specs.declared.file_text.FileText.{FileText}
use Rattle.beam_values.specs.declared.options.Options.{Options}
use Rattle.beam_values.specs.declared.plan.FnKind.{FnKind}
use Rattle.beam_values.specs.declared.plan.Plan.{Plan}
use Rattle.beam_model.specs.Positions.{items}
use Rattle.beam_model.specs.Spread.{HasPoison}
use Rattle.beam_ports.specs.Counts.{Rose, rise}
use Rattle.beam_ports.specs.Observed.{ObservedSink, ObservedStore, WhereTold}
use Rattle.chain_exec.specs.Causes.{ObservedShelf}
use Rattle.book_core.specs.Book.{sets_aside}
use Rattle.ended_runs.specs.DeadLetters.{HasNoPoisonPosition}
use Rattle.ended_runs.specs.Unpoisoned.{TakesNoPoison, TakesNoPoisonBeside}
use Rattle.beam_text.specs.declared.refusal.ScheduleRefusal.{ScheduleRefusal}
use Rattle.beam_text.specs.declared.refusal.ScheduleRefusal.TheVariants as refusal
use Rattle.command_words.specs.Commands.{Asked}
use Rattle.run_engine.specs.Kits.{ObservedKits}
use Rattle.run_engine.specs.declared.run_end.RunEnd.{RunEnd}
use Rattle.command_ends.specs.Statuses.{IsNoSourceOrNoMemory}
use Rattle.command_ends.specs.declared.status.Status.{Status}
use Rattle.command_ends.specs.declared.status.Status.TheVariants as status
use Rattle.combine_lift.specs.Lifting.{IsLiftable}
use Rattle.combine_lift.specs.declared.refusal.LiftRefusal.TheVariants as lift
use Rattle.combine_laws.specs.Combined.{HasFunction, IsSomePoison, MeetsMany, MeetsPart, MeetsSum}
use Rattle.beam_command.specs.Asking.{IsPlanOf, IsPlanRead, WhereCombine, WherePanes, WherePipeline, WhereReplay}
use Rattle.beam_command.specs.Observing.{Observed, AreFound}
use Rattle.beam_command.specs.Promises.{IsPlanAsked}
use Rattle.beam_command.specs.ReplayEnds.{AreInputsOf, IsRefusedOf, Replayed}

-- ---- what is asked for

-- of these files, a position is poison that a plan reads which sets none aside
abbrev pub AsksForPoison : List FileText → Option Asked → Type 0
AsksForPoison told asked = (plan : Plan) × IsPlanAsked (Some told) asked plan × (sets_aside plan ≡ false) × HasPoison plan (items told plan)

-- the plan is there, and so is each file that it reads
abbrev pub HasInputs : List FileText → Asked → Type 0
HasInputs told asked = (plan : Plan) × IsPlanOf (Some told) asked plan × AreFound (Some told) plan

-- the same, and no run of the plan takes a job that is poison
abbrev pub HasCleanInputs : List FileText → Asked → Options → Type 0
HasCleanInputs told asked options =
    (plan : Plan) × IsPlanOf (Some told) asked plan × AreFound (Some told) plan × TakesNoPoison (record { told = Some told; strict = true }) plan options

-- the same, of a plan that sets positions aside, and no run of it takes a batch or a key job that is poison
abbrev pub HasInputsAside : List FileText → Asked → Options → Type 0
HasInputsAside told asked options =
    (plan : Plan) × IsPlanOf (Some told) asked plan × AreFound (Some told) plan × (sets_aside plan ≡ true)
    × TakesNoPoisonBeside (record { told = Some told; strict = true }) plan options

-- the plan is there with its files, no position is poison, and no run of it takes a batch or a key job that is
abbrev pub HasCleanPositions : List FileText → Asked → Options → Type 0
HasCleanPositions told asked options =
    (plan : Plan) × IsPlanOf (Some told) asked plan × AreFound (Some told) plan × HasNoPoisonPosition told plan
    × TakesNoPoisonBeside (record { told = Some told; strict = true }) plan options

-- a position of the plan of this file is poison
abbrev pub ReadsPoison : List FileText → List ℕ → Type 0
ReadsPoison told name = (plan : Plan) × IsPlanRead (Some told) name plan × HasPoison plan (items told plan)

-- the plan is there and isn't lifted
abbrev pub HasUnliftedPlan : List FileText → List ℕ → Type 0
HasUnliftedPlan told name = (plan : Plan) × IsPlanRead (Some told) name plan × (IsLiftable plan → ⊥)

-- what is combined is there: a plan that is lifted, with its files; each part is one that its function takes, each sum fits, and there are not too many
pub record HasLiftedInputs (told : List FileText) (name : List ℕ) : Type 0 where
  pub plan : Plan
  pub read : IsPlanRead (Some told) name plan
  pub found : AreFound (Some told) plan
  pub liftable : IsLiftable plan
  pub group : ℕ
  pub function : ℕ
  pub work : FnKind
  pub has : HasFunction plan group function work
  pub parts : MeetsPart plan (items told plan) group work → ⊥
  pub sums : MeetsSum plan (items told plan) group work → ⊥
  pub few : MeetsMany plan (items told plan) group → ⊥

-- the same, and nothing is poison: no position, and no chain of what is combined
pub record HasCleanLiftedInputs (told : List FileText) (name : List ℕ) : Type 0 where
  pub inputs : HasLiftedInputs told name
  pub clean : IsSomePoison inputs.plan (items told inputs.plan) inputs.group inputs.function inputs.work → ⊥

-- what a replay works on is there: a plan with its files, and a schedule that isn't too long
abbrev pub HasReplayInputs : List FileText → List ℕ → List ℕ → Type 0
HasReplayInputs told name schedule = (inputs : Replayed) × AreInputsOf (Some told) name schedule inputs

-- the same, and no line of the schedule is refused
abbrev pub HasAcceptedSchedule : Observed → List FileText → List ℕ → List ℕ → Options → Type 0
HasAcceptedSchedule observed told name schedule options =
    (inputs : Replayed) × AreInputsOf (Some told) name schedule inputs × ((why : ScheduleRefusal) → IsRefusedOf observed.kits options inputs why → ⊥)

-- ---- what doesn't fail, or seldom

-- stores that did not fail in this call
abbrev pub HasNotFailed : ObservedStore → Type 0
HasNotFailed store = Rose store.before store.after → ⊥

-- shelves that fail on poison alone
abbrev pub IsStrict : ObservedShelf → Type 0
IsStrict shelf = shelf.strict ≡ true

-- shelves that fail on poison alone, or did not fail in this call
abbrev pub FailsOnPoison : ObservedShelf → Type 0
FailsOnPoison shelf = IsStrict shelf ⊎ (Rose shelf.before shelf.after → ⊥)

-- fewer faults than a job has attempts, of all functions and stores together
abbrev pub AreKitFaultsFew : ℕ → ObservedKits → Type 0
AreKitFaultsFew attempts kits = rise kits.shelf.before kits.shelf.after + rise kits.store.before kits.store.after < attempts

-- so few in all kits together, and in the sink
pub record AreFaultsFew (attempts : ℕ) (observed : Observed) : Type 0 where
  pub kits : AreKitFaultsFew attempts observed.kits
  pub out : rise observed.out.before observed.out.after < attempts

-- so few in all stores together and in the sink, however many the shelves counted
pub record AreReadFaultsFew (attempts : ℕ) (observed : Observed) : Type 0 where
  pub store : rise observed.kits.store.before observed.kits.store.after < attempts
  pub out : rise observed.out.before observed.out.after < attempts

-- none in all stores together, and so few in the sink, however many the shelves counted
pub record IsNoReadFault (attempts : ℕ) (observed : Observed) : Type 0 where
  pub store : rise observed.kits.store.before observed.kits.store.after ≡ 0
  pub out : rise observed.out.before observed.out.after < attempts

-- ---- the ends

-- the source's function failed on a position of its first file, as often as it may
abbrev pub first_fault : Options → FaultNote
first_fault options = record { node = 0; item = 0; at = 0; attempt = options.attempts; cause = Call }

abbrev pub IsEndOfPoison : Options → Status → Type 0
IsEndOfPoison options s = (s ≡ status.WorkFault (first_fault options)) ⊎ (s ≡ status.NoMemory)

-- the run came to its end, and its text was written
abbrev pub IsEndOfClean : Status → Type 0
IsEndOfClean s = (s ≡ status.Ok) ⊎ (s ≡ status.NoMemory)

-- no opening, call or read failed as often as it may; the sink may have
abbrev pub IsEndOfFewFaults : ℕ → ObservedSink → Status → Type 0
IsEndOfFewFaults attempts out status.Ok = Unit {0}
IsEndOfFewFaults attempts out status.NoMemory = Unit {0}
IsEndOfFewFaults attempts out (status.BadPlan refusal) = Unit {0}
IsEndOfFewFaults attempts out (status.NoSource name) = Unit {0}
IsEndOfFewFaults attempts out (status.FileChanged name len other) = Unit {0}
IsEndOfFewFaults attempts out status.SinkFault = attempts ≤ rise out.before out.after
IsEndOfFewFaults attempts out _ = ⊥

-- the same of a plan that is to be combined: it may not be lifted, or its parts not be taken
abbrev pub IsEndOfFewLifted : ℕ → ObservedSink → Status → Type 0
IsEndOfFewLifted attempts out (status.NotLifted why) = Unit {0}
IsEndOfFewLifted attempts out s = IsEndOfFewFaults attempts out s

-- what the schedule prints was written, or a line of it is refused
abbrev pub IsEndOfReplay : Status → Type 0
IsEndOfReplay status.Ok = Unit {0}
IsEndOfReplay status.NoMemory = Unit {0}
IsEndOfReplay (status.BadSchedule (refusal.Line number)) = Unit {0}
IsEndOfReplay (status.BadSchedule (refusal.NotAllowed number)) = Unit {0}
IsEndOfReplay _ = ⊥

-- the plan isn't lifted
abbrev pub IsEndOfUnlifted : Status → Type 0
IsEndOfUnlifted s = (s ≡ status.NotLifted lift.Shape) ⊎ (s ≡ status.NoMemory)

-- no opening or read failed as often as it may, however many calls did; the sink may have
abbrev pub IsEndOfFewReads : ℕ → ObservedSink → Status → Type 0
IsEndOfFewReads attempts out status.Ok = Unit {0}
IsEndOfFewReads attempts out status.NoMemory = Unit {0}
IsEndOfFewReads attempts out (status.BadPlan refusal) = Unit {0}
IsEndOfFewReads attempts out (status.NoSource name) = Unit {0}
IsEndOfFewReads attempts out (status.BadSchedule refusal) = Unit {0}
IsEndOfFewReads attempts out status.SinkFault = attempts ≤ rise out.before out.after
IsEndOfFewReads attempts out _ = ⊥

-- two kits opened a file with different lengths
abbrev pub IsChange : Status → Type 0
IsChange (status.FileChanged name first other) = Unit {0}
IsChange _ = ⊥

-- ---- which end must come

-- where the files are told
pub record IsDecided (asked : Option Asked) (observed : Observed) (end : RunEnd) : Type 0 where
  -- no store fails, and the file of `panes` isn't there
  pub absent : WherePanes asked (λ file size options. HasNotFailed observed.kits.store
      → WhereTold observed.kits.store.files (λ told. first_named file told ≡ None → IsNoSourceOrNoMemory file end.status))
  -- no store fails, and a line of that file is poison, over strict shelves
  pub poison : WherePanes asked (λ file size options. HasNotFailed observed.kits.store → IsStrict observed.kits.shelf
      → WhereTold observed.kits.store.files (λ told. IsSome (first_named file told) → AsksForPoison told asked → IsEndOfPoison options end.status))
  -- no line of that file is poison, and few reads and writes fail
  pub clean : WherePanes asked (λ file size options. AreReadFaultsFew options.attempts observed → FailsOnPoison observed.kits.shelf
      → WhereTold observed.kits.store.files (λ told. IsSome (first_named file told) → (AsksForPoison told asked → ⊥) → IsEndOfClean end.status))
  -- no pipeline ends Ok of which a position is poison, but where positions are set aside
  pub not_ok : WhereTold observed.kits.store.files (λ told. AsksForPoison told asked → end.status ≡ status.Ok → ⊥)
  -- all files of the pipeline are there, and few faults are counted
  pub complete : WherePipeline asked (λ own options.
      WhereTold observed.kits.store.files (λ told. HasInputs told own → AreFaultsFew options.attempts observed → IsEndOfClean end.status))
  -- no run of the plan takes a job that is poison, over strict shelves, and few reads and writes fail
  pub complete_strict : WherePipeline asked (λ own options. IsStrict observed.kits.shelf
      → WhereTold observed.kits.store.files (λ told. HasCleanInputs told own options → AreReadFaultsFew options.attempts observed → IsEndOfClean end.status))
  -- positions are set aside, and no run takes a batch or a key job that is poison, over strict shelves; no read fails, and few writes do
  pub complete_aside : WherePipeline asked (λ own options. IsStrict observed.kits.shelf
      → WhereTold observed.kits.store.files (λ told. HasInputsAside told own options → IsNoReadFault options.attempts observed → IsEndOfClean end.status))
  -- no position is poison, nor a batch or a key job that a run takes, over strict shelves, and few reads and writes fail
  pub complete_positions : WherePipeline asked (λ own options. IsStrict observed.kits.shelf
      → WhereTold observed.kits.store.files (λ told. HasCleanPositions told own options → AreReadFaultsFew options.attempts observed → IsEndOfClean end.status))
  -- what a replay works on is there, and few reads and writes fail, however many calls of functions do
  pub replay : WhereReplay asked (λ name schedule options. AreReadFaultsFew options.attempts observed
      → WhereTold observed.kits.store.files (λ told. HasReplayInputs told name schedule → IsEndOfReplay end.status))
  -- the same, of a schedule that is accepted
  pub replay_accepted : WhereReplay asked (λ name schedule options. AreReadFaultsFew options.attempts observed
      → WhereTold observed.kits.store.files (λ told. HasAcceptedSchedule observed told name schedule options → IsEndOfClean end.status))
  -- nothing is combined of which a position is poison
  pub not_combined : WhereCombine asked (λ name options.
      WhereTold observed.kits.store.files (λ told. ReadsPoison told name → end.status ≡ status.Ok → ⊥))
  -- the plan that is to be combined is there and isn't lifted, and few reads fail
  pub unlifted : WhereCombine asked (λ name options. rise observed.kits.store.before observed.kits.store.after < options.attempts
      → WhereTold observed.kits.store.files (λ told. HasUnliftedPlan told name → IsEndOfUnlifted end.status))
  -- what is combined is there, and few faults are counted
  pub combined : WhereCombine asked (λ name options. AreFaultsFew options.attempts observed
      → WhereTold observed.kits.store.files (λ told. HasLiftedInputs told name → IsEndOfClean end.status))
  -- the same where nothing is poison, over strict shelves, and few reads and writes fail
  pub combined_strict : WhereCombine asked (λ name options. AreReadFaultsFew options.attempts observed → IsStrict observed.kits.shelf
      → WhereTold observed.kits.store.files (λ told. HasCleanLiftedInputs told name → IsEndOfClean end.status))
  -- files that all stores tell alike don't change
  pub same_files : WhereTold observed.kits.store.files (λ told. IsChange end.status → ⊥)

-- Whatever the stores tell, where few faults of the kits are counted. With 3 attempts and 2 faults at the kits a pipeline may end NoSource, or SinkFault where the
-- sink counted 3. It can't end SourceFault or WorkFault, each of which takes 3 at the kits. Of a replay only the faults of its store count.
abbrev pub EndsWhereFewFail : Option Asked → Observed → RunEnd → Type 0
EndsWhereFewFail asked observed end =
    WherePipeline asked (λ own options. AreKitFaultsFew options.attempts observed.kits → IsEndOfFewFaults options.attempts observed.out end.status)
    × WhereCombine asked (λ name options. AreKitFaultsFew options.attempts observed.kits → IsEndOfFewLifted options.attempts observed.out end.status)
    × WhereReplay asked (λ name schedule options. rise observed.kits.store.before observed.kits.store.after < options.attempts
    → IsEndOfFewReads options.attempts observed.out end.status)
