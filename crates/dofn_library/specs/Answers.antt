-- What the call of a function answers, and what it adds to the outputs.
use Rattle.std.specs.Prelude.{◌≡◌, ℕ, ℤ, ◌++◌, List, Option, Some, None, Result, Ok, Err}
use Rattle.beam_values.specs.declared.element.Element.{Element}
use Rattle.beam_ports.specs.Counts.{raised}
use Rattle.beam_values.specs.declared.state_cell.StateCell.{StateCell}
use Rattle.beam_model.specs.Steps.{Stepped}
use Rattle.dofn_traits.specs.Calls.{IsStepped}
use Rattle.dofn_traits.specs.declared.calls.CallRefusal.{CallRefusal}
use Rattle.dofn_traits.specs.declared.calls.CallRefusal.TheVariants.{Failed, NoMemory}

-- What is given is added; where there is poison in its place, the call fails, and no memory was asked for.
abbrev pub Gives : Option (List Element) → List Element → List Element → Result (Unit {0}) CallRefusal → Type 0
Gives (Some outputs) old new (Ok done) = new ≡ old ++ outputs
Gives (Some outputs) old new (Err NoMemory) = Unit {0}
Gives (Some outputs) old new (Err Failed) = ⊥
Gives None old new (Ok done) = ⊥
Gives None old new (Err NoMemory) = ⊥
Gives None old new (Err Failed) = Unit {0}

-- the same of a call that changes the state of a key
abbrev pub Steps : Option Stepped → List StateCell → List (Option ℤ) → List Element → List Element → Result (Unit {0}) CallRefusal → Type 0
Steps (Some after) cells timers old new (Ok done) = IsStepped after cells timers old new
Steps (Some after) cells timers old new (Err NoMemory) = Unit {0}
Steps (Some after) cells timers old new (Err Failed) = ⊥
Steps None cells timers old new (Ok done) = ⊥
Steps None cells timers old new (Err NoMemory) = ⊥
Steps None cells timers old new (Err Failed) = Unit {0}

-- the count of faults after a call that answers so
abbrev pub counted : ℕ → Result (Unit {0}) CallRefusal → ℕ
counted faults (Ok done) = faults
counted faults (Err NoMemory) = faults
counted faults (Err Failed) = raised faults
