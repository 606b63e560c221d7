-- The timings of panes in their order.
use Rattle.std.specs.Prelude.{ℕ}
use Rattle.beam_values.specs.declared.element.Timing.{Timing}
use Rattle.beam_values.specs.declared.element.Timing.TheVariants.{Early, OnTime, Late, Unknown}

-- EARLY, ON_TIME, LATE, UNKNOWN, counted from 0
abbrev pub timing_number : Timing → ℕ
timing_number Early = 0
timing_number OnTime = 1
timing_number Late = 2
timing_number Unknown = 3
