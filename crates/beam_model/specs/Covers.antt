-- Cover: the ranges that a run committed and the positions that it set aside partition its source items (Splittable DoFn: restrictions partition their
-- element).
use Rattle.std.specs.Prelude.{◌≡◌, ◌+◌, min}
use Rattle.beam_values.specs.Cover.{Place, times_dead, times_done, times_listed}
use Rattle.beam_values.specs.declared.outcome.Outcome.{Outcome}

-- Each offset of each listed item lies in exactly one committed range of it and isn't dead, or it lies in none and is dead once. No committed range and no
-- dead position has another offset. Of 19 bytes the ranges `[0, 9)` and `[10, 19)` and the dead position 9 are a cover.
abbrev pub IsCovered : Outcome → Type 0
IsCovered o = (place : Place) → times_done o.done place + times_dead o.dead place ≡ min 1 (times_listed o.files place)
