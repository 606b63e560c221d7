-- Values by their forms: what a function sees of the value that it is given.
use Rattle.std.specs.Prelude.{ℕ, ℤ, Bool, true, false, List, [], ◌∷◌, Option, Some, None}
use Rattle.beam_values.specs.declared.value.Value.{Value}
use Rattle.beam_values.specs.declared.value.Value.TheOpen as layer
use Rattle.beam_values.specs.declared.value.Value.TheViews.{out-Value, roll-Value}

-- a key and what belongs to it
pub record KeyedValue : Type 0 where
  pub key : Value
  pub part : Value

abbrev pub null : Value
null = roll-Value layer.Null

abbrev pub int : ℤ → Value
int n = roll-Value (layer.Int n)

abbrev pub blob : List ℕ → Value
blob bytes = roll-Value (layer.Blob bytes)

abbrev pub pair : Value → Value → Value
pair key part = roll-Value (layer.Pair key part)

abbrev pub seq : List Value → Value
seq items = roll-Value (layer.Seq items)

abbrev pub bytes_of : layer.Value-F Value → Option (List ℕ)
bytes_of (layer.Blob bytes) = Some bytes
bytes_of _ = None

abbrev pub number_of : layer.Value-F Value → Option ℤ
number_of (layer.Int n) = Some n
number_of _ = None

abbrev pub keyed_of : layer.Value-F Value → Option KeyedValue
keyed_of (layer.Pair key part) = Some (record { key = key; part = part })
keyed_of _ = None

abbrev pub items_of : layer.Value-F Value → Option (List Value)
items_of (layer.Seq items) = Some items
items_of _ = None

abbrev pub is_null_layer : layer.Value-F Value → Bool
is_null_layer layer.Null = true
is_null_layer _ = false

abbrev pub is_null : Value → Bool
is_null v = is_null_layer (out-Value v)

-- what a value holds, where it has the form
abbrev pub as_blob : Value → Option (List ℕ)
as_blob v = bytes_of (out-Value v)

abbrev pub as_int : Value → Option ℤ
as_int v = number_of (out-Value v)

abbrev pub as_pair : Value → Option KeyedValue
as_pair v = keyed_of (out-Value v)

abbrev pub as_seq : Value → Option (List Value)
as_seq v = items_of (out-Value v)

abbrev pub with_first : Option ℤ → Option (List ℤ) → Option (List ℤ)
with_first (Some n) (Some numbers) = Some (n ∷ numbers)
with_first (Some n) None = None
with_first None rest = None

-- the numbers of items that are all whole numbers
abbrev pub numbers_in : List Value → Option (List ℤ)
numbers_in [] = Some []
numbers_in (item ∷ items) = with_first (as_int item) (numbers_in items)
