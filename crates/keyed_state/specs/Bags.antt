-- Bags of values that are found by search.
use Rattle.std.specs.Prelude.{◌≡◌, Bool, List, bytes_eq}
use Rattle.std.specs.List.{flat_map, list_any}
use Rattle.std.specs.List.Sorted.{IsSorted}
use Rattle.beam_values.specs.Orders.{value_cmp}
use Rattle.beam_values.specs.Spelling.{spelling}
use Rattle.beam_values.specs.declared.value.Value.{Value}

-- values are equal where their spellings are
abbrev pub holds_value : List Value → Value → Bool
holds_value values v = list_any (λ held. bytes_eq (spelling held) (spelling v)) values

-- the values of runs, one run after another
abbrev pub joined : List (List Value) → List Value
joined runs = flat_map (λ run. run) runs

-- a list holds just the values of another one
abbrev pub HoldsSame : List Value → List Value → Type 0
HoldsSame others values = (v : Value) → holds_value others v ≡ holds_value values v

-- the second list is the first one in order, so far as it matters to which values it holds
pub record IsSortedFrom (values sorted : List Value) : Type 0 where
  pub order : IsSorted value_cmp sorted
  pub same : HoldsSame sorted values
