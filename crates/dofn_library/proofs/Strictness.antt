-- What follows of a call that answers exactly by what is given.
use Rattle.std.proofs.Common.{◌≡◌, ◌≢◌, ℕ, ℤ, ◌++◌, List, Option, Some, None, Result, Ok, Err, refl, arith}
use Rattle.std.specs.Prelude.{OnOk, IsErrOf}
use Rattle.std.proofs.lemmas.Bool.Decides.{nat_tests}
use Rattle.beam_ports.specs.Counts.{Rose, raised}
use Rattle.beam_values.specs.declared.element.Element.{Element}
use Rattle.beam_values.specs.declared.state_cell.StateCell.{StateCell}
use Rattle.beam_model.specs.Steps.{Stepped}
use Rattle.dofn_traits.specs.declared.calls.CallRefusal.{CallRefusal}
use Rattle.dofn_traits.specs.declared.calls.CallRefusal.TheVariants.{Failed, NoMemory}
use Rattle.dofn_traits.specs.Calls.{IsStepped, IsUnharmed}
use Rattle.dofn_library.specs.Answers.{Gives, Steps, counted}

raised_rose : (count : ℕ) → Rose count (raised count)
raised_rose count = grind (arith, nat_tests)

pub outputs_added : (given : Option (List Element)) (old new : List Element) (answer : Result (Unit {0}) CallRefusal) → Gives given old new answer
    → OnOk answer ((outputs : List Element) × (given ≡ Some outputs) × (new ≡ old ++ outputs))
outputs_added (Some outputs) old new (Ok done) is = (outputs, refl, is)
outputs_added None old new (Ok done) is = absurd is
outputs_added given old new (Err e) is = tt

pub failure_rose : (answer : Result (Unit {0}) CallRefusal) (before after : ℕ) → after ≡ counted before answer → IsErrOf answer Failed → Rose before after
failure_rose (Ok done) before after is failed = cc
failure_rose (Err NoMemory) before after is failed = cc
failure_rose (Err Failed) before after is failed = rw is (raised_rose before)

pub given_unharmed : (given : Option (List Element)) (old new : List Element) (answer : Result (Unit {0}) CallRefusal) (before after : ℕ)
    → Gives given old new answer → after ≡ counted before answer → given ≢ None → IsUnharmed (IsErrOf answer Failed) before after
given_unharmed (Some outputs) old new (Ok done) before after is counts there = record { answered = λ failed. cc; uncounted = counts }
given_unharmed (Some outputs) old new (Err NoMemory) before after is counts there = record { answered = λ failed. cc; uncounted = counts }
given_unharmed (Some outputs) old new (Err Failed) before after is counts there = absurd is
given_unharmed None old new answer before after is counts there = absurd (there refl)

-- ---- the same of calls that change the state of a key

pub step_taken : (step : Option Stepped) (cells : List StateCell) (timers : List (Option ℤ)) (old new : List Element) (answer : Result (Unit {0}) CallRefusal)
    → Steps step cells timers old new answer
    → OnOk answer ((after : Stepped) × (step ≡ Some after) × IsStepped after cells timers old new)
step_taken (Some after) cells timers old new (Ok done) is = (after, refl, is)
step_taken None cells timers old new (Ok done) is = absurd is
step_taken step cells timers old new (Err e) is = tt

pub step_unharmed : (step : Option Stepped) (cells : List StateCell) (timers : List (Option ℤ)) (old new : List Element) (answer : Result (Unit {0}) CallRefusal) (before after : ℕ)
    → Steps step cells timers old new answer → after ≡ counted before answer → step ≢ None → IsUnharmed (IsErrOf answer Failed) before after
step_unharmed (Some left) cells timers old new (Ok done) before after is counts there = record { answered = λ failed. cc; uncounted = counts }
step_unharmed (Some left) cells timers old new (Err NoMemory) before after is counts there = record { answered = λ failed. cc; uncounted = counts }
step_unharmed (Some left) cells timers old new (Err Failed) before after is counts there = absurd is
step_unharmed None cells timers old new answer before after is counts there = absurd (there refl)
