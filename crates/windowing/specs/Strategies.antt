-- Why a windowing strategy is refused; which ones are allowed stands in `beam_values::specs::Strategies`.
use Rattle.std.specs.Prelude.{ℕ, ℤ, pos, ◌+ℤ◌, ◌-ℤ◌, List, Option, Some, None, if◌then◌else◌, nat_lt}
use Rattle.std.specs.Int.{int_div_euclid}
use Rattle.beam_values.specs.Intervals.{Interval}
use Rattle.beam_values.specs.Strategies.{is_length, most_windows}
use Rattle.beam_values.specs.Windows.{or_zero, windows_from}
use Rattle.beam_values.specs.declared.plan.Strategy.{Strategy}
use Rattle.beam_values.specs.declared.plan.Strategy.TheVariants.{Global, Fixed, Sliding, Sessions, Kept}
use Rattle.windowing.specs.declared.strategy.StrategyRefusal.{StrategyRefusal}
use Rattle.windowing.specs.declared.strategy.StrategyRefusal.TheVariants.{Size, Period, TooManyWindows}

-- why a strategy is refused, by the first of the reasons that fits
abbrev pub refusal_of : Strategy → Option StrategyRefusal
refusal_of Global = None
refusal_of (Fixed size) = if is_length size then None else Some Size
refusal_of (Sliding size period) =
    if is_length size
    then (if is_length period then (if nat_lt 1024 (most_windows size period) then Some TooManyWindows else None) else Some Period)
    else Some Size
refusal_of (Sessions gap) = if is_length gap then None else Some Size
refusal_of Kept = None

-- the reasons in their order, counted from 1
abbrev pub refusal_number : StrategyRefusal → ℕ
refusal_number Size = 1
refusal_number Period = 2
refusal_number TooManyWindows = 3

-- sliding windows from a start on, each a period after the one before, up to the time
abbrev pub windows_up_to : ℤ → ℤ → ℤ → ℤ → List Interval
windows_up_to size period time start = windows_from size period start (or_zero (int_div_euclid (time -ℤ start) period +ℤ pos 1))
