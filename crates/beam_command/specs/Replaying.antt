-- How a replay of a checked plan goes with one kit.
use Rattle.std.specs.Prelude.{◌⊎◌, ℕ, ◌≤◌, List, [], ◌∷◌, Option}
use Rattle.beam_values.specs.declared.file_text.FileText.{FileText}
use Rattle.beam_values.specs.declared.options.Options.{Options}
use Rattle.beam_values.specs.declared.piece.FileLen.{FileLen}
use Rattle.beam_values.specs.declared.plan.Plan.{Plan}
use Rattle.beam_ports.specs.Counts.{rise}
use Rattle.beam_ports.specs.Observed.{ObservedStore}
use Rattle.beam_ports.specs.declared.store.Store.{Ghosts as StoreGhosts}
use Rattle.beam_text.specs.declared.refusal.ScheduleRefusal.{ScheduleRefusal}
use Rattle.beam_text.specs.declared.refusal.ScheduleRefusal.TheVariants as refusal
use Rattle.bundle_work.specs.declared.kit.Kit.{Kit}
use Rattle.dofn_traits.specs.declared.shelf.Shelf.{Ghosts as ShelfGhosts}
use Rattle.run_engine.specs.Kits.{observed_each}
use Rattle.run_engine.specs.Openings.{IsOpeningRefused}
use Rattle.run_engine.specs.PlanRun.{AreFirstLengths}
use Rattle.schedule_replay.specs.Replays.{IsReplayed, IsScheduleRefused, known_by}
use Rattle.schedule_replay.specs.Works.{Counts}
use Rattle.command_ends.specs.PlanFiles.{IsPlanRefused}
use Rattle.command_ends.specs.declared.status.Status.{Status}
use Rattle.command_ends.specs.declared.status.Status.TheVariants as status
use Rattle.beam_command.specs.Asking.{IsPlanRead}
use Rattle.beam_command.specs.Observing.{AreFound}
use Rattle.beam_command.specs.ReplayEnds.{IsScheduleMissed, IsScheduleRead}
use Rattle.beam_command.specs.declared.replays.ReplayFiles.{ReplayFiles}

-- ---- the files of a replay

-- what was read of the plan's document and of the schedule
pub record AreRead (files : Option (List FileText)) (name schedule : List ℕ) (read : ReplayFiles) : Type 0 where
  pub plan : IsPlanRead files name read.graph
  pub lines : IsScheduleRead files schedule read.schedule.bytes.items

-- one of them was not read
abbrev pub AreFilesRefused : ObservedStore → List ℕ → List ℕ → ℕ → Status → Type 0
AreFilesRefused first name schedule attempts s = IsPlanRefused first name attempts s ⊎ IsScheduleMissed first name schedule attempts s

-- ---- with one kit

-- no more was counted from the one to the other than this kit counted
pub record AreCountedBy {F S : Type 0} (f : ShelfGhosts F) (s : StoreGhosts S) (old new : Kit F S) (before after : Counts) : Type 0 where
  pub shelf : rise before.shelf after.shelf ≤ rise (f.faults old.shelf) (f.faults new.shelf)
  pub store : rise before.store after.store ≤ rise (s.faults old.store) (s.faults new.store)

-- the schedule was worked with it, and this was printed
pub record IsKitReplayed {F S : Type 0} (f : ShelfGhosts F) (s : StoreGhosts S) (old new : Kit F S) (plan : Plan) (options : Options) (schedule text : List ℕ) : Type 0 where
  pub files : List FileLen
  pub lengths : AreFirstLengths (s.files old.store) plan files
  pub found : AreFound (s.files old.store) plan
  pub before : Counts
  pub after : Counts
  pub counted : AreCountedBy f s old new before after
  pub is : IsReplayed (known_by f.strict s.files old) before after plan files options schedule text

-- or a line of it is refused
pub record IsKitRefused {F S : Type 0} (f : ShelfGhosts F) (s : StoreGhosts S) (old new : Kit F S) (plan : Plan) (options : Options) (schedule : List ℕ) (why : ScheduleRefusal)
    : Type 0 where
  pub files : List FileLen
  pub lengths : AreFirstLengths (s.files old.store) plan files
  pub found : AreFound (s.files old.store) plan
  pub before : Counts
  pub after : Counts
  pub counted : AreCountedBy f s old new before after
  pub is : IsScheduleRefused (known_by f.strict s.files old) before after plan files options schedule why

-- since the schedule is short enough, only for a line
abbrev pub IsKitStopped : {F S : Type 0} → ShelfGhosts F → StoreGhosts S → Kit F S → Kit F S → Plan → Options → List ℕ → Status → Type 0
IsKitStopped f s old new plan options schedule (status.BadSchedule (refusal.Length len)) = ⊥
IsKitStopped f s old new plan options schedule (status.BadSchedule why) = IsKitRefused f s old new plan options schedule why
IsKitStopped f s old new plan options schedule status.NoMemory = Unit {0}
IsKitStopped f s old new plan options schedule _ = ⊥

-- ---- the same of a list of one kit

abbrev pub IsGraphReplayed : {F S : Type 0} → ShelfGhosts F → StoreGhosts S → List (Kit F S) → List (Kit F S) → Plan → Options → List ℕ → List ℕ → Type 0
IsGraphReplayed f s (old ∷ []) (new ∷ []) plan options schedule text = IsKitReplayed f s old new plan options schedule text
IsGraphReplayed f s olds news plan options schedule text = ⊥

abbrev pub IsLineStopped : {F S : Type 0} → ShelfGhosts F → StoreGhosts S → List (Kit F S) → List (Kit F S) → Plan → Options → List ℕ → ScheduleRefusal → Type 0
IsLineStopped f s (old ∷ []) (new ∷ []) plan options schedule why = IsKitRefused f s old new plan options schedule why
IsLineStopped f s olds news plan options schedule why = ⊥

-- a line was refused, or the files of the plan could not be opened, after that many failures before
abbrev pub IsGraphStopped : {F S : Type 0} → ShelfGhosts F → StoreGhosts S → List (Kit F S) → List (Kit F S) → Plan → Options → List ℕ → ℕ → Status → Type 0
IsGraphStopped f s olds news plan options schedule failed (status.BadSchedule (refusal.Length len)) = ⊥
IsGraphStopped f s olds news plan options schedule failed (status.BadSchedule why) = IsLineStopped f s olds news plan options schedule why
IsGraphStopped f s olds news plan options schedule failed (status.FileChanged name first other) = ⊥
IsGraphStopped f s olds news plan options schedule failed why = IsOpeningRefused (observed_each s.files s.faults olds news) plan options.attempts failed why
