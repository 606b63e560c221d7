-- A function that fails at the calls that it was given: what contracts see of it, and what a call does.
use Rattle.std.specs.Prelude.{◌≡◌, ◌≢◌, ℕ, ◌+◌, ◌≤◌, ◌==◌, min, Bool, true, ◌&&◌, List, length, None, Result, Err, OnOk, IsErrOf}
use Rattle.beam_values.specs.declared.element.Element.{Element}
use Rattle.beam_values.specs.declared.plan.Args.{Args}
use Rattle.beam_values.specs.declared.plan.FnKind.{FnKind}
use Rattle.beam_ports.specs.Counts.{Rose, greatest_count, raised}
use Rattle.beam_ports.specs.StoreMemory.{is_listed}
use Rattle.beam_model.specs.Functions.{emits}
use Rattle.dofn_traits.specs.Calls.{AddsOutputs, IsUnharmed}
use Rattle.dofn_traits.specs.declared.calls.CallRefusal.{CallRefusal}
use Rattle.dofn_traits.specs.declared.calls.CallRefusal.TheVariants.{Failed}

-- the box that it calls, the numbers of the calls that fail, how many calls there were, and how many of them were listed
pub record Script (D : Type 0) : Type 0 where
  pub inner : D
  pub failing : List ℕ
  pub calls : ℕ
  pub faults : ℕ

abbrev pub is_next_listed : {D : Type 0} → Script D → Bool
is_next_listed script = is_listed script.failing script.calls

-- its own faults and those of its box, up to the greatest number of 64 bits
abbrev pub script_faults : {D : Type 0} → (D → ℕ) → Script D → ℕ
script_faults faults_of script = min (script.faults + faults_of script.inner) greatest_count

abbrev pub is_script_strict : {D : Type 0} → (D → Bool) → Script D → Bool
is_script_strict is_strict script = (length script.failing == 0) && is_strict script.inner

-- a listed call: it fails and is counted, and neither the box nor the outputs change
pub record IsStopped {D : Type 0} (old new : Script D) (before after : List Element) (answer : Result (Unit {0}) CallRefusal) : Type 0 where
  pub answered : answer ≡ Err Failed
  pub counted : new ≡ record old { calls = raised old.calls; faults = raised old.faults }
  pub unchanged : after ≡ before

-- what functions promise of a call, here of that of a box
pub record IsPromised {D : Type 0} (work_of : D → FnKind) (faults_of : D → ℕ) (is_strict : D → Bool) (args : Args) (e : Element)
    (old new : D) (before after : List Element) (answer : Result (Unit {0}) CallRefusal) : Type 0 where
  pub outputs : OnOk answer (AddsOutputs (work_of old) args e before after)
  pub failed : IsErrOf answer Failed → Rose (faults_of old) (faults_of new)
  pub counts : faults_of old ≤ faults_of new
  pub unharmed : is_strict old ≡ true → emits (work_of old) args e ≢ None → IsUnharmed (IsErrOf answer Failed) (faults_of old) (faults_of new)
  pub work : work_of new ≡ work_of old
  pub strict : is_strict new ≡ is_strict old
