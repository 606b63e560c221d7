-- Which windowing strategies are allowed (Beam Programming Guide, Windowing: setting a windowing function; the bounds are this profile's).
use Rattle.std.specs.Prelude.{ℕ, ◌≤◌, ℤ, pos, ◌≤ℤ◌, Bool, true, ◌&&◌, int_le, nat_le}
use Rattle.std.specs.Int.{div_ceil}
use Rattle.beam_values.specs.Windows.{or_zero}
use Rattle.beam_values.specs.declared.plan.Strategy.{Strategy}
use Rattle.beam_values.specs.declared.plan.Strategy.TheVariants.{Global, Fixed, Sliding, Sessions, Kept}

-- the greatest length of a window, a period, a gap, a lag, a lateness, a shift and a delay: 1000 years of 365 days, in milliseconds
abbrev pub greatest_length : ℤ
greatest_length = pos 31536000000000

-- a size, a period or a gap
abbrev pub IsLength : ℤ → Type 0
IsLength ms = (pos 1 ≤ℤ ms) × (ms ≤ℤ greatest_length)

-- so many sliding windows hold a time at most: the size divided by the period, rounded up
abbrev pub most_windows : ℤ → ℤ → ℕ
most_windows size period = div_ceil (or_zero size) (or_zero period)

-- the strategies that pass their check; Kept passes, though no WindowInto may name it
abbrev pub IsAllowed : Strategy → Type 0
IsAllowed Global = Unit {0}
IsAllowed (Fixed size) = IsLength size
IsAllowed (Sliding size period) = IsLength size × IsLength period × (most_windows size period ≤ 1024)
IsAllowed (Sessions gap) = IsLength gap
IsAllowed Kept = Unit {0}

-- IsLength and IsAllowed as tests
abbrev pub is_length : ℤ → Bool
is_length ms = int_le (pos 1) ms && int_le ms greatest_length

abbrev pub is_allowed : Strategy → Bool
is_allowed Global = true
is_allowed (Fixed size) = is_length size
is_allowed (Sliding size period) = is_length size && is_length period && nat_le (most_windows size period) 1024
is_allowed (Sessions gap) = is_length gap
is_allowed Kept = true
