-- Windows: the spans of time that hold an element by its time (Beam Programming Guide, Windowing: provided windowing functions).
use Rattle.std.specs.Prelude.{◌≡◌, ℕ, zero, suc, ℤ, pos, negsuc, ◌+ℤ◌, ◌-ℤ◌, ◌*ℤ◌, ◌≤ℤ◌, ◌<ℤ◌, List, [], ◌∷◌}
use Rattle.std.specs.Int.{int_div_euclid, int_rem_euclid}
use Rattle.beam_values.specs.Intervals.{Interval}
use Rattle.beam_values.specs.Times.{least_time}
use Rattle.beam_values.specs.Functions.{fixed_window}
use Rattle.beam_values.specs.declared.plan.Strategy.{Strategy}
use Rattle.beam_values.specs.declared.plan.Strategy.TheVariants.{Global, Fixed, Sliding, Sessions, Kept}

-- all of time
abbrev pub global_window : Interval
global_window = record { start = least_time; end = pos 9223372036854776 }

abbrev pub HoldsTime : Interval → ℤ → Type 0
HoldsTime span time = (span.start ≤ℤ time) × (time <ℤ span.end)

-- the window of this size that starts so
abbrev pub window_from : ℤ → ℤ → Interval
window_from size start = record { start = start; end = start +ℤ size }

-- Which spans are the windows of a time: all of time; the spans of the size that hold it and start at a multiple of the size, or of the
-- period; the span of a gap's length that starts at it.
abbrev pub IsWindow : Strategy → ℤ → Interval → Type 0
IsWindow Global time span = span ≡ global_window
IsWindow (Fixed size) time span = HoldsTime span time × (span ≡ window_from size span.start) × (int_rem_euclid span.start size ≡ pos 0)
IsWindow (Sliding size period) time span = HoldsTime span time × (span ≡ window_from size span.start) × (int_rem_euclid span.start period ≡ pos 0)
IsWindow (Sessions gap) time span = span ≡ window_from gap time
IsWindow Kept time span = ⊥

-- a number, or 0 in place of a negative one
abbrev pub or_zero : ℤ → ℕ
or_zero (pos n) = n
or_zero (negsuc n) = 0

-- so many windows, the first of which starts so and each other a period after the one before
unfoldable pub windows_from : ℤ → ℤ → ℤ → ℕ → List Interval
windows_from size period start zero = []
windows_from size period start (suc count) = window_from size start ∷ windows_from size period (start +ℤ period) count

-- The windows start at the multiples of the period that are above `time - size` and not above the time. At size 60000 and period 30000 the
-- time 45000 has those that start at 0 and 30000.
abbrev pub sliding_windows : ℤ → ℤ → ℤ → List Interval
sliding_windows size period time =
    let before = int_div_euclid (time -ℤ size) period in
    windows_from size period (period *ℤ (before +ℤ pos 1)) (or_zero (int_div_euclid time period -ℤ before))

-- the windows of a time, ascending by their start
abbrev pub windows_of : Strategy → ℤ → List Interval
windows_of Global time = global_window ∷ []
windows_of (Fixed size) time = fixed_window size time ∷ []
windows_of (Sliding size period) time = sliding_windows size period time
windows_of (Sessions gap) time = window_from gap time ∷ []
windows_of Kept time = []
