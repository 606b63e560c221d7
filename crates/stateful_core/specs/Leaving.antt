-- What a step leaves of key cells, and whose a job is.
use Rattle.std.specs.Prelude.{◌≡◌, ℕ, List, map, Option, Some, None}
use Rattle.beam_values.specs.Intervals.{Interval}
use Rattle.beam_values.specs.declared.value.Value.{Value}
use Rattle.stateful_core.specs.Cells.{KeyCell, key_arrivals, key_holds, logs_of}
use Rattle.stateful_core.specs.Facts.{came_to}
use Rattle.stateful_core.specs.Lasting.{left_of}
use Rattle.stateful_core.specs.Placing.{Done}

-- the same logs, arrivals and holds, and as much left
pub record AreLeftAs (old new : List KeyCell) : Type 0 where
  pub logs : logs_of new ≡ logs_of old
  pub came : key_arrivals new ≡ key_arrivals old
  pub to : (node : ℕ) (key : Value) (span : Interval) → came_to node key span new ≡ came_to node key span old
  pub holds : key_holds new ≡ key_holds old
  pub left : map left_of new ≡ map left_of old

-- the job that is done, if one is, is another cell's
abbrev pub IsOtherDone : Option Done → ℕ → Type 0
IsOtherDone None at = Unit {0}
IsOtherDone (Some done) at = at ≡ done.cell → ⊥
