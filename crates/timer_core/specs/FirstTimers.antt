-- Which timer comes first, and the least time that one is set to (Beam Programming Guide, State and Timers: event-time timers).
use Rattle.std.specs.Prelude.{◌≡◌, ℕ, ℤ, ◌≤ℤ◌, List, Option, Some, None, if◌then◌else◌, int_le}
use Rattle.beam_values.specs.States.{timer_of}
use Rattle.beam_values.specs.declared.log.Timer.{Timer}

-- no timer is set
abbrev pub IsNoneSet : List (Option ℤ) → Type 0
IsNoneSet timers = (name : ℕ) → timer_of timers name ≡ None

-- a timer is set to this time, and none to an earlier one
pub record IsLeastTime (timers : List (Option ℤ)) (time : ℤ) : Type 0 where
  pub name : ℕ
  pub is_set : timer_of timers name ≡ Some time
  pub least : (other : ℕ) (later : ℤ) → timer_of timers other ≡ Some later → time ≤ℤ later

-- the first of the timers below a name, and that name's, the one that comes first
abbrev pub earlier : Option Timer → ℕ → Option ℤ → Option Timer
earlier first name None = first
earlier None name (Some time) = Some (record { name = name; time = time })
earlier (Some first) name (Some time) = if int_le first.time time then Some first else Some (record { name = name; time = time })
