-- Values as a program can hold them.
use Rattle.std.specs.Int.{w64}
use Rattle.std.specs.Int.RustNames.{FitsSigned}
use Rattle.beam_values.specs.declared.value.Value.{Value}
use Rattle.beam_values.specs.declared.value.Value.TheOpen as layer
use Rattle.beam_values.specs.declared.value.Value.TheFolds.{every-Value}

abbrev pub IsStorableLayer : layer.Value-F Value → Type 0
IsStorableLayer layer.Null = Unit {0}
IsStorableLayer (layer.Int n) = FitsSigned w64 n
IsStorableLayer (layer.Blob bytes) = Unit {0}
IsStorableLayer (layer.Pair key value) = Unit {0}
IsStorableLayer (layer.Seq items) = Unit {0}

-- each whole number in the value has 64 bits
pub record IsStorable (v : Value) : Type 0 where
  pub every : every-Value IsStorableLayer v
