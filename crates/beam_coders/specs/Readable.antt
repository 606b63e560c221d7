-- Which values and elements can be read: those whose nesting is within the limit, with numbers that their places can hold.
use Rattle.std.specs.Prelude.{ℕ, ◌+◌, ◌^◌, ◌<◌, ◌≤◌, ◌<ℤ◌, max, List, [], ◌∷◌}
use Rattle.std.specs.Int.{w64}
use Rattle.std.specs.Int.RustNames.{FitsSigned}
use Rattle.beam_values.specs.declared.element.Element.{Element}
use Rattle.beam_values.specs.declared.value.Value.{Value}
use Rattle.beam_values.specs.declared.value.Value.TheOpen as layer
use Rattle.beam_values.specs.declared.value.Value.TheFolds.{fold-Value}
use Rattle.beam_values.specs.Times.{IsTime}
use Rattle.beam_values.specs.Storable.{IsStorable}

abbrev pub greatest_of : List ℕ → ℕ
greatest_of [] = 0
greatest_of (n ∷ ns) = max n (greatest_of ns)

abbrev pub nesting_step : layer.Value-F ℕ → ℕ
nesting_step layer.Null = 1
nesting_step (layer.Int n) = 1
nesting_step (layer.Blob bytes) = 1
nesting_step (layer.Pair key value) = 1 + max key value
nesting_step (layer.Seq items) = 1 + greatest_of items

-- how many values stand inside one another, the outermost and the innermost among them
abbrev pub nesting : Value → ℕ
nesting = fold-Value ℕ nesting_step

-- a value stands inside at most 255 pairs and sequences
abbrev pub depth_limit : ℕ
depth_limit = 256

pub record IsReadable (v : Value) : Type 0 where
  pub within : nesting v ≤ depth_limit
  pub words : IsStorable v

-- an element with numbers that its places can hold
pub record FitsPlaces (e : Element) : Type 0 where
  pub time : IsTime e.time
  pub start : FitsSigned w64 e.span.start
  pub end : FitsSigned w64 e.span.end
  pub ordered : e.span.start <ℤ e.span.end
  pub index : e.pane.index < 2 ^ 32
  pub words : IsStorable e.value

pub record IsReadableElement (e : Element) : Type 0 where
  pub within : nesting e.value ≤ depth_limit
  pub places : FitsPlaces e
