-- What calls of a stateful function on the inputs of a key job bring, and why they were refused (Beam Programming Guide, State and Timers).
use Rattle.std.specs.Prelude.{◌≡◌, ℕ, true, List, [], ◌∷◌, ◌++◌, map, slice_get, Option, Some, None}
use Rattle.std.specs.List.{flat_map}
use Rattle.std.specs.Option.{option_and_then}
use Rattle.beam_values.specs.States.{KeptState}
use Rattle.beam_values.specs.declared.fault.Cause.TheVariants.{Call, Read}
use Rattle.beam_values.specs.declared.log.LogEntry.{LogEntry}
use Rattle.beam_values.specs.declared.log.LogInput.{LogInput}
use Rattle.beam_values.specs.declared.plan.Args.{Args}
use Rattle.beam_values.specs.declared.plan.NodeKind.{NodeKind}
use Rattle.beam_values.specs.declared.plan.NodeKind.TheVariants.{Stateful}
use Rattle.beam_values.specs.declared.plan.Plan.{Plan}
use Rattle.beam_values.specs.declared.plan.StateKind.{StateKind}
use Rattle.beam_model.specs.Chains.{Output, Arrives, chain}
use Rattle.beam_model.specs.Steps.{Stepped}
use Rattle.beam_ports.specs.Counts.{Rose}
use Rattle.bundle_commit.specs.declared.job.Job.{Job}
use Rattle.bundle_commit.specs.declared.job.Job.TheVariants.{Key}
use Rattle.bundle_commit.specs.declared.job.Logged.{Logged}
use Rattle.bundle_commit.specs.declared.job.Receipt.{Receipt}
use Rattle.dofn_traits.specs.Calls.{kept_in}
use Rattle.stateful_core.specs.Facts.{Folded, folded_in}
use Rattle.stateful_core.specs.KeyWork.{key_outputs}
use Rattle.chain_exec.specs.Causes.{ObservedShelf}
use Rattle.chain_exec.specs.declared.refusal.ExecRefusal.{ExecRefusal}
use Rattle.chain_exec.specs.declared.refusal.ExecRefusal.TheVariants.{Faulted, NoMemory}

-- ---- the work of a key job

-- a stateful function with its arguments
pub record StateWork : Type 0 where
  pub work : StateKind
  pub args : Args

abbrev pub state_work_in : NodeKind → Option StateWork
state_work_in (Stateful work args log) = Some (record { work = work; args = args })
state_work_in _ = None

-- the stateful function of this number, if the node is one
abbrev pub state_work_at : Plan → ℕ → Option StateWork
state_work_at plan node = option_and_then (λ n. state_work_in n.kind) (slice_get plan.nodes node)

-- the stateful function that a key job calls
abbrev pub state_work_of : Plan → Job → Option StateWork
state_work_of plan (Key node cell key span inputs state timers attempts) = state_work_at plan node
state_work_of plan _ = None

-- What a key job brings to the barriers, call after call. Of a function that takes each value once, over "x", "x" and "y" from the fresh state, these are the
-- chains of "x" and then those of "y".
abbrev pub outputs_of_job : Plan → Job → List Output
outputs_of_job plan (Key node cell key span inputs state timers attempts) = key_outputs plan node key span inputs (kept_in state timers)
outputs_of_job plan _ = []

-- what its calls leave and log, under commit 0
abbrev pub folded_of_job : Plan → Job → Option Folded
folded_of_job plan (Key node cell key span inputs state timers attempts) = folded_in (slice_get plan.nodes node) key span 0 (kept_in state timers) inputs
folded_of_job plan _ = None

-- what is noted of calls, as definitions see it
abbrev pub kept_of : Logged → KeptState
kept_of logged = kept_in logged.state logged.timers

abbrev pub folded_of : Logged → Folded
folded_of logged = record { kept = kept_of logged; entries = logged.entries }

-- entries before others
abbrev pub behind : List LogEntry → Folded → Folded
behind entries all = record all { entries = entries ++ all.entries }

-- ---- one call

-- the function of the node failed, and was counted; over a strict shelf on poison alone
abbrev pub IsStateRefused : ObservedShelf → ℕ → Option Stepped → ExecRefusal → Type 0
IsStateRefused shelf node called (Faulted at Call) = Rose shelf.before shelf.after × (at ≡ node) × (shelf.strict ≡ true → called ≡ None)
IsStateRefused shelf node called (Faulted at Read) = ⊥
IsStateRefused shelf node called NoMemory = Unit {0}

-- a call on this input left what it gives, is logged behind the calls before it, and its outputs were staged where they arrive
pub record IsCallOf (plan : Plan) (node : ℕ) (called : Option Stepped) (input : LogInput) (before logged : Logged) (old new : Receipt) : Type 0 where
  pub after : Stepped
  pub is : called ≡ Some after
  pub keeps : kept_of logged ≡ after.kept
  pub logs : logged.entries ≡ before.entries ++ (record { input = input; commit = 0; outputs = after.outputs }) ∷ []
  pub staged : map Arrives new.arrivals ≡ map Arrives old.arrivals ++ flat_map (chain plan node) after.outputs
