-- A window by its two ends.
use Rattle.std.proofs.Common.{◌≡◌, ℤ, ◌+ℤ◌, ◌-ℤ◌, ◌∙◌, ap}
use Rattle.std.specs.Int.{int_rem_euclid}
use Rattle.beam_values.specs.Intervals.{Interval}
use Rattle.beam_values.specs.Functions.{fixed_window}
use Rattle.beam_values.specs.Windows.{window_from}

pub window_from_by_ends : (window : Interval) (size start : ℤ) → window.start ≡ start → window.end ≡ start +ℤ size → window ≡ window_from size start
window_from_by_ends window size start starts ends = λ i. record { start = starts i; end = ends i }

pub fixed_window_by_ends : (window : Interval) (size time : ℤ) → window.start ≡ time -ℤ int_rem_euclid time size → window.end ≡ window.start +ℤ size
    → window ≡ fixed_window size time
fixed_window_by_ends window size time start end =
    λ i. record { start = start i; end = (end ∙ ap (λ s. s +ℤ size) start) i }
