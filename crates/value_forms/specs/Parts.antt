-- The parts of a value: what a reader takes one apart into.
use Rattle.std.specs.Prelude.{ℕ, ◌==◌, if◌then◌else◌, ℤ, pos, negsuc, List, [], ◌∷◌, length, slice_get, Option, Some, None}
use Rattle.beam_values.specs.declared.value.Value.{Value}
use Rattle.beam_values.specs.declared.value.Value.TheOpen as layer
use Rattle.beam_values.specs.declared.value.Value.TheViews.{out-Value}

-- a step after one that may find nothing
infixl 10 ◌>>=◌
abbrev pub ◌>>=◌ : {A B : Type 0} → Option A → (A → Option B) → Option B
None >>= f = None
(Some x) >>= f = f x

abbrev pub int_step : layer.Value-F Value → Option ℤ
int_step (layer.Int n) = Some n
int_step _ = None

-- the number of an Int
unfoldable pub int_at : Value → Option ℤ
int_at v = int_step (out-Value v)

abbrev pub blob_step : layer.Value-F Value → Option (List ℕ)
blob_step (layer.Blob bytes) = Some bytes
blob_step _ = None

-- the bytes of a Blob
unfoldable pub blob_at : Value → Option (List ℕ)
blob_at v = blob_step (out-Value v)

abbrev pub items_step : layer.Value-F Value → Option (List Value)
items_step (layer.Seq items) = Some items
items_step _ = None

-- the items of a Seq
unfoldable pub items_at : Value → Option (List Value)
items_at v = items_step (out-Value v)

abbrev pub pair_step : layer.Value-F Value → Option (Value × Value)
pair_step (layer.Pair key value) = Some (key, value)
pair_step _ = None

-- the two of a Pair
unfoldable pub pair_at : Value → Option (Value × Value)
pair_at v = pair_step (out-Value v)

abbrev pub not_negative : ℤ → Option ℕ
not_negative (pos n) = Some n
not_negative (negsuc n) = None

-- The place of a variant, and its fields. `Pair(Int(2), Seq[Null])` has the place 2 and the one field Null, `Pair(Int(-1), Seq[])` is none.
unfoldable pub case_at : Value → Option (ℕ × List Value)
case_at v = do
  parts ← pair_at v
  number ← int_at parts.0
  place ← not_negative number
  fields ← items_at parts.1
  Some (place, fields)

-- the field at a place, counted from 0, as a reader takes it
unfoldable pub field_at : {A : Type 0} → (Value → Option A) → List Value → ℕ → Option A
field_at read fields place = slice_get fields place >>= read

-- there are so many fields
unfoldable pub ends_at : List Value → ℕ → Option (Unit {0})
ends_at fields count = if length fields == count then Some tt else None

-- each item as a reader takes it
unfoldable pub all_of : {A : Type 0} → (Value → Option A) → List Value → Option (List A)
all_of read [] = Some []
all_of read (v ∷ vs) = do
  x ← read v
  xs ← all_of read vs
  Some (x ∷ xs)
