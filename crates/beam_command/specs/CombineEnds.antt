-- How `combine` ends: its plan is lifted, and what it writes is plain grouping of the whole input.
use Rattle.std.specs.Prelude.{◌≡◌, ◌⊎◌, ℕ, List, [], Some, None, slice_get}
use Rattle.beam_values.specs.declared.arrival.Arrival.{Arrival}
use Rattle.beam_values.specs.declared.options.Options.{Options}
use Rattle.beam_values.specs.declared.outcome.Outcome.{Outcome}
use Rattle.beam_values.specs.declared.plan.FnKind.{FnKind}
use Rattle.beam_values.specs.declared.plan.Plan.{Plan}
use Rattle.beam_model.specs.Positions.{items}
use Rattle.beam_model.specs.Rendering.{IsRendering}
use Rattle.beam_ports.specs.Observed.{ObservedStore, WhereTold}
use Rattle.run_engine.specs.Kits.{ObservedKits}
use Rattle.run_engine.specs.Openings.{IsOpeningRefused}
use Rattle.run_engine.specs.PlanRun.{surroundings_of}
use Rattle.combine_lift.specs.Lifting.{IsLiftable}
use Rattle.combine_lift.specs.declared.refusal.LiftRefusal.TheVariants as lift
use Rattle.combine_laws.specs.Combined.{HasFunction, IsCombined}
use Rattle.combine_plan.specs.Combined.{IsLiftedRefused}
use Rattle.combine_plan.specs.declared.refusal.CombineRefusal.{CombineRefusal}
use Rattle.combine_plan.specs.declared.refusal.CombineRefusal.TheVariants.{Lift, Fault, NoMemory}
use Rattle.command_ends.specs.PlanFiles.{IsPlanRefused}
use Rattle.command_ends.specs.Writing.{IsWritten}
use Rattle.command_ends.specs.declared.status.Status.{Status}
use Rattle.command_ends.specs.declared.status.Status.TheVariants as status
use Rattle.beam_command.specs.Asking.{IsPlanRead}
use Rattle.beam_command.specs.Observing.{Observed, AreFound, IsUnwritten}

-- ---- what is printed

-- the Writes of a plan with what came to them, and nothing else
abbrev pub written_alone : Plan → List Arrival → Outcome
written_alone plan written = record {
  plan = plan;
  files = [];
  done = [];
  dead = [];
  cells = [];
  panes = [];
  dropped = [];
  logs = [];
  written = written;
  commits = [];
  stopped = None;
}

-- The text of what was combined of a plan: it is lifted and its files are there, what came to each Write is what plain grouping of the whole input brings, and
-- nothing is poison.
pub record IsCombinedOf (kits : ObservedKits) (plan : Plan) (text : List ℕ) : Type 0 where
  pub liftable : IsLiftable plan
  pub found : AreFound kits.store.files plan
  pub group : ℕ
  pub function : ℕ
  pub work : FnKind
  pub has : HasFunction plan group function work
  pub written : List Arrival
  pub plain : WhereTold kits.store.files (λ told. IsCombined plan (items told plan) group function work written)
  pub is : IsRendering (written_alone plan written) text

-- the same of what came to the Writes, before it is spelled
pub record AreCombinedOf (kits : ObservedKits) (plan : Plan) (arrivals : List Arrival) : Type 0 where
  pub liftable : IsLiftable plan
  pub found : AreFound kits.store.files plan
  pub group : ℕ
  pub function : ℕ
  pub work : FnKind
  pub has : HasFunction plan group function work
  pub plain : WhereTold kits.store.files (λ told. IsCombined plan (items told plan) group function work arrivals)

-- of the plan that the first store tells
abbrev pub IsCombinedText : ObservedKits → List ℕ → List ℕ → Type 0
IsCombinedText kits name text =
    (first : ObservedStore) × (plan : Plan) × (slice_get kits.stores 0 ≡ Some first) × IsPlanRead first.files name plan × IsCombinedOf kits plan text

-- it was written so
abbrev pub AreCombinedWritten : Observed → List ℕ → Options → Status → Type 0
AreCombinedWritten observed name options s =
    (text : List ℕ) × IsCombinedText observed.kits name text × IsWritten observed.out options.attempts text s

-- ---- why nothing was combined

-- a plan is lifted and its files are there, and its parts or the work on it are refused for this cause
pub record IsWorkRefused (kits : ObservedKits) (plan : Plan) (attempts : ℕ) (why : CombineRefusal) : Type 0 where
  pub liftable : IsLiftable plan
  pub found : AreFound kits.store.files plan
  pub group : ℕ
  pub function : ℕ
  pub work : FnKind
  pub has : HasFunction plan group function work
  pub cause : IsLiftedRefused (surroundings_of kits) kits.shelf kits.store plan attempts group function work why

-- Why a plan was not combined, whose document's file had failed so often before: it isn't lifted; or its parts or the work on it are refused; or there was no
-- memory; or it is lifted, and a file that it reads could not be opened, or not as the first kit opened it.
abbrev pub IsUncombined : ObservedKits → Plan → ℕ → ℕ → Status → Type 0
IsUncombined kits plan attempts failed (status.NotLifted lift.Shape) = IsLiftable plan → ⊥
IsUncombined kits plan attempts failed (status.NotLifted why) = IsWorkRefused kits plan attempts (Lift why)
IsUncombined kits plan attempts failed (status.WorkFault note) = IsWorkRefused kits plan attempts (Fault note)
IsUncombined kits plan attempts failed status.NoMemory = Unit {0}
IsUncombined kits plan attempts failed s = IsLiftable plan × IsOpeningRefused kits.stores plan attempts failed s

-- the status of a refusal
abbrev pub status_of : CombineRefusal → Status
status_of (Lift why) = status.NotLifted why
status_of (Fault note) = status.WorkFault note
status_of NoMemory = status.NoMemory

-- the plan that the first store tells was not combined
abbrev pub IsReadUncombined : ObservedKits → List ℕ → ℕ → Status → Type 0
IsReadUncombined kits name attempts s =
    (first : ObservedStore) × (plan : Plan) × (slice_get kits.stores 0 ≡ Some first) × IsPlanRead first.files name plan × IsUncombined kits plan attempts 0 s

-- its document was refused by the first store
abbrev pub IsDocumentRefusedBy : ObservedKits → List ℕ → ℕ → Status → Type 0
IsDocumentRefusedBy kits name attempts s = (first : ObservedStore) × (slice_get kits.stores 0 ≡ Some first) × IsPlanRefused first name attempts s

abbrev pub IsCombineStopped : ObservedKits → List ℕ → ℕ → Status → Type 0
IsCombineStopped kits name attempts status.NoMemory = Unit {0}
IsCombineStopped kits name attempts s = IsDocumentRefusedBy kits name attempts s ⊎ IsReadUncombined kits name attempts s

-- ---- the end

abbrev pub IsCombineEnd : Observed → List ℕ → Options → Status → Type 0
IsCombineEnd observed name options status.Ok = AreCombinedWritten observed name options status.Ok
IsCombineEnd observed name options status.SinkFault = AreCombinedWritten observed name options status.SinkFault
IsCombineEnd observed name options s = IsUnwritten observed × IsCombineStopped observed.kits name options.attempts s
