-- Reading from the left: the value and the bytes after it, or the first rule that fails.
use Rattle.std.specs.Prelude.{ℕ, zero, suc, ◌+◌, ◌-◌, ◌*◌, ◌%◌, ◌^◌, ℤ, pos, negsuc, List, [], ◌∷◌, length, take, drop, Result, Ok, Err, nat_lt, ◌==◌, ◌&&◌, if◌then◌else◌}
use Rattle.std.specs.Int.{w64, from_be_bytes}
use Rattle.std.specs.Int.Signed.{lt_z, le_z}
use Rattle.beam_values.specs.declared.element.Element.{Element}
use Rattle.beam_values.specs.declared.element.PaneTag.{PaneTag}
use Rattle.beam_values.specs.declared.element.Timing.{Timing}
use Rattle.beam_values.specs.declared.element.Timing.TheVariants.{Early, OnTime, Late, Unknown}
use Rattle.beam_values.specs.declared.value.Value.{Value}
use Rattle.beam_values.specs.declared.value.Value.TheVariants.{Null, Int, Blob, Pair, Seq}
use Rattle.beam_values.specs.Intervals.{Interval}
use Rattle.beam_values.specs.Times.{least_time, greatest_time}
use Rattle.beam_coders.specs.declared.refusal.CoderRefusal.{CoderRefusal}
use Rattle.beam_coders.specs.declared.refusal.CoderRefusal.TheVariants.{Short, Overlong, Tag, Range, Deep}
use Rattle.beam_coders.specs.Readable.{depth_limit}

-- what was read from the front, and the bytes after it
abbrev pub Reading : Type 0 → Type 0
Reading A = Result (A × List ℕ) CoderRefusal

infixl 10 ◌>>=◌
abbrev pub ◌>>=◌ : {A B : Type 0} → Result A CoderRefusal → (A → Result B CoderRefusal) → Result B CoderRefusal
(Ok x) >>= f = f x
(Err e) >>= f = Err e

-- ---- values

-- A VarInt of a number below 2 ^ `bits`: the least group first, and 128 more where another follows. A last group of 0 after others is unneeded.
unfoldable pub varint_at : ℕ → List ℕ → Reading ℕ
varint_at bits [] = Err Short
varint_at bits (byte ∷ rest) =
    if nat_lt byte 128 then
    (if nat_lt byte (2 ^ bits) then Ok (byte, rest) else Err Overlong)
    else if nat_lt 7 bits then
    (varint_at (bits - 7) rest >>= λ above. if above.0 == 0 then Err Overlong else Ok (byte % 128 + 128 * above.0, above.1))
    else Err Overlong

-- the signed number with these 64 bits
abbrev pub signed : ℕ → ℤ
signed bits = if nat_lt bits (2 ^ 63) then pos bits else negsuc (2 ^ 64 - 1 - bits)

-- a length, and that many bytes
unfoldable pub blob_at : List ℕ → Reading (List ℕ)
blob_at bytes = do
  len ← varint_at 64 bytes
  if nat_lt (length len.1) len.0 then Err Short else Ok (take len.0 len.1, drop len.0 len.1)

-- so many values one after another
unfoldable pub items_at : (List ℕ → Reading Value) → ℕ → List ℕ → Reading (List Value)
items_at value zero bytes = Ok ([], bytes)
items_at value (suc count) bytes = do
  item ← value bytes
  others ← items_at value count item.1
  Ok (item.0 ∷ others.0, others.1)

-- what follows a tag, where `value` reads the values inside
unfoldable pub tagged_at : (List ℕ → Reading Value) → ℕ → List ℕ → Reading Value
tagged_at value tag rest =
    if tag == 0 then Ok (Null, rest)
    else if tag == 1 then (do
      bits ← varint_at 64 rest
      Ok (Int (signed bits.0), bits.1))
    else if tag == 2 then (do
      blob ← blob_at rest
      Ok (Blob blob.0, blob.1))
    else if tag == 3 then (do
      key ← value rest
      other ← value key.1
      Ok (Pair key.0 other.0, other.1))
    else if tag == 4 then (do
      count ← varint_at 64 rest
      items ← items_at value count.0 count.1
      Ok (Seq items.0, items.1))
    else Err (Tag tag)

-- A value of a nesting of at most `depth`, which is tested before its tag is read.
unfoldable pub value_at : ℕ → List ℕ → Reading Value
value_at zero bytes = Err Deep
value_at (suc depth) [] = Err Short
value_at (suc depth) (tag ∷ rest) = tagged_at (value_at depth) tag rest

-- ---- elements

-- the number that 2 ^ 63 more spells
abbrev pub unflipped : ℕ → ℤ
unflipped bits = if nat_lt bits (2 ^ 63) then negsuc (2 ^ 63 - 1 - bits) else pos (bits - 2 ^ 63)

-- eight bytes
unfoldable pub ms_at : List ℕ → Reading ℤ
ms_at bytes = if nat_lt (length bytes) 8 then Err Short else Ok (unflipped (from_be_bytes w64 (take 8 bytes)), drop 8 bytes)

-- a number of milliseconds within the bounds of a time
unfoldable pub time_at : List ℕ → Reading ℤ
time_at bytes = do
  ms ← ms_at bytes
  if le_z least_time ms.0 && le_z ms.0 greatest_time then Ok ms else Err Range

-- a start that is below its end
unfoldable pub span_at : List ℕ → Reading Interval
span_at bytes = do
  start ← ms_at bytes
  end ← ms_at start.1
  if lt_z start.0 end.0 then Ok (record { start = start.0; end = end.0 }, end.1) else Err Range

abbrev pub timing_of : ℕ → Result Timing CoderRefusal
timing_of byte = if byte == 0 then Ok Early else if byte == 1 then Ok OnTime else if byte == 2 then Ok Late else if byte == 3 then Ok Unknown else Err Range

-- a timing and an index of 32 bits
unfoldable pub pane_at : List ℕ → Reading PaneTag
pane_at [] = Err Short
pane_at (byte ∷ rest) = do
  timing ← timing_of byte
  index ← varint_at 64 rest
  if nat_lt index.0 (2 ^ 32) then Ok (record { timing = timing; index = index.0 }, index.1) else Err Range

unfoldable pub element_at : List ℕ → Reading Element
element_at bytes = do
  time ← time_at bytes
  span ← span_at time.1
  pane ← pane_at span.1
  value ← value_at depth_limit pane.1
  Ok (record { value = value.0; time = time.0; span = span.0; pane = pane.0 }, value.1)
