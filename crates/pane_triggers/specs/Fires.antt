-- What the answers of the firing table mean.
use Rattle.std.specs.Prelude.{Option, Some, None}
use Rattle.beam_values.specs.declared.element.Timing.{Timing}
use Rattle.beam_values.specs.declared.element.Timing.TheVariants as timing
use Rattle.pane_triggers.specs.declared.answer.Fire.{Fire}
use Rattle.pane_triggers.specs.declared.answer.Fire.TheVariants.{Nothing, Early, OnTime, Late}

-- the timing of the pane that fires, if one does
abbrev pub timing_of : Fire → Option Timing
timing_of Nothing = None
timing_of Early = Some timing.Early
timing_of OnTime = Some timing.OnTime
timing_of Late = Some timing.Late
