-- The state of a key: eight cells and eight timers, named 0 to 7 (Beam Programming Guide, State and Timers: value state, bag state, event-time timers).
use Rattle.std.specs.Prelude.{◌≡◌, ◌⊎◌, ℕ, ◌≤◌, ℤ, ◌<ℤ◌, List, [], replicate, Option, Some, None}
use Rattle.std.specs.List.{slice_index_or}
use Rattle.beam_values.specs.declared.value.Value.{Value}
use Rattle.beam_values.specs.declared.state_cell.StateCell.{StateCell}
use Rattle.beam_values.specs.declared.state_cell.StateCell.TheVariants.{Unset, Number, Text, Bag}
use Rattle.beam_values.specs.declared.log.Timer.{Timer}

-- the cell of a name
abbrev pub cell_of : List StateCell → ℕ → StateCell
cell_of cells name = slice_index_or cells name Unset

-- what a cell of one form holds; a cell of another form holds none
abbrev pub number_in : StateCell → Option ℤ
number_in (Number n) = Some n
number_in Unset = None
number_in (Text bytes) = None
number_in (Bag values) = None

abbrev pub bytes_in : StateCell → Option (List ℕ)
bytes_in (Text bytes) = Some bytes
bytes_in Unset = None
bytes_in (Number n) = None
bytes_in (Bag values) = None

abbrev pub bag_in : StateCell → Option (List Value)
bag_in (Bag values) = Some values
bag_in Unset = None
bag_in (Number n) = None
bag_in (Text bytes) = None

-- the values of a cell: those of a bag, and else none
abbrev pub values_in : StateCell → List Value
values_in (Bag values) = values
values_in Unset = []
values_in (Number n) = []
values_in (Text bytes) = []

-- the time that a timer is set to
abbrev pub timer_of : List (Option ℤ) → ℕ → Option ℤ
timer_of timers name = slice_index_or timers name None

-- timers come by their times, and at one time by their names
abbrev pub ComesNoLater : Timer → ℕ → ℤ → Type 0
ComesNoLater timer name time = (timer.time <ℤ time) ⊎ ((timer.time ≡ time) × (timer.name ≤ name))

-- this timer is set, and no set one comes before it
pub record IsFirstTimer (timers : List (Option ℤ)) (timer : Timer) : Type 0 where
  pub is_set : timer_of timers timer.name ≡ Some timer.time
  pub first : (name : ℕ) (time : ℤ) → timer_of timers name ≡ Some time → ComesNoLater timer name time

-- no timer is set at or before a time
abbrev pub IsNoneDue : List (Option ℤ) → ℤ → Type 0
IsNoneDue timers mark = (name : ℕ) (time : ℤ) → timer_of timers name ≡ Some time → mark <ℤ time

-- the state of a key: its cells, and the times that its timers are set to
pub record KeptState : Type 0 where
  pub cells : List StateCell
  pub timers : List (Option ℤ)

-- before the first call nothing is kept, and no timer is set
abbrev pub fresh_state : KeptState
fresh_state = record { cells = replicate 8 Unset; timers = replicate 8 None }
