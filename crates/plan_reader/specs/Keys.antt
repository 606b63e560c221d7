-- The keys that a node lists, by its kind and its work.
use Rattle.std.specs.Prelude.{ℕ, nat_le, if◌then◌else◌, List, [], ◌∷◌}
use Rattle.beam_values.specs.declared.plan.FnKind.{FnKind}
use Rattle.beam_values.specs.declared.plan.FnKind.TheVariants as function
use Rattle.beam_values.specs.declared.plan.NodeKind.{NodeKind}
use Rattle.beam_values.specs.declared.plan.NodeKind.TheVariants.{Source, ParDo, Flatten, WindowInto, Group, Stateful, Write}
use Rattle.beam_values.specs.declared.plan.SourceKind.{SourceKind}
use Rattle.beam_values.specs.declared.plan.SourceKind.TheVariants as source
use Rattle.beam_values.specs.declared.plan.StateKind.{StateKind}
use Rattle.beam_values.specs.declared.plan.StateKind.TheVariants as state
use Rattle.plan_reader.specs.declared.refusal.PlanKey.{PlanKey}
use Rattle.plan_reader.specs.declared.refusal.PlanKey.TheVariants as key

abbrev pub document_keys : List PlanKey
document_keys = key.Beam ∷ key.Nodes ∷ []

abbrev pub source_keys : SourceKind → List PlanKey
source_keys source.Lines = key.Work ∷ key.Files ∷ key.Estimator ∷ []
source_keys source.TimedLines = key.Work ∷ key.Files ∷ key.Estimator ∷ []
source_keys source.Count = key.Work ∷ key.Count ∷ key.Number ∷ key.Estimator ∷ []
source_keys source.Made = key.Work ∷ key.Count ∷ key.Number ∷ key.Estimator ∷ []

abbrev pub function_keys : FnKind → List PlanKey
function_keys function.Field = key.Work ∷ key.Number ∷ []
function_keys function.Shift = key.Work ∷ key.Number ∷ []
function_keys function.KeepPrefix = key.Work ∷ key.Text ∷ []
function_keys _ = key.Work ∷ []

abbrev pub state_keys : StateKind → List PlanKey
state_keys state.BatchUntil = key.Work ∷ key.Number ∷ key.Log ∷ []
state_keys state.LatestThenEmit = key.Work ∷ key.Number ∷ key.Log ∷ []
state_keys _ = key.Work ∷ key.Log ∷ []

-- trees of triggers stand in documents from version 3 on
abbrev pub group_keys : ℕ → List PlanKey
group_keys version = key.Early ∷ key.Late ∷ key.Lateness ∷ key.Mode ∷ (if nat_le 3 version then key.EarlyWhen ∷ key.LateWhen ∷ [] else [])

-- the keys of a node beside its name, its kind and its inputs
abbrev pub further_keys : ℕ → NodeKind → List PlanKey
further_keys version (Source work args files estimator) = source_keys work
further_keys version (ParDo work args) = function_keys work
further_keys version Flatten = []
further_keys version (WindowInto strategy) = key.Windows ∷ []
further_keys version (Group trigger) = group_keys version
further_keys version (Stateful work args log) = state_keys work
further_keys version (Write label) = key.Label ∷ []

abbrev pub node_keys : ℕ → NodeKind → List PlanKey
node_keys version kind = key.Name ∷ key.Kind ∷ key.Input ∷ further_keys version kind

abbrev pub side_keys : List PlanKey
side_keys = key.Name ∷ key.Kind ∷ key.Input ∷ key.View ∷ key.Mode ∷ []
