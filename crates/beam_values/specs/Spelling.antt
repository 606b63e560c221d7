-- How values are spelled as bytes: varints and nested pairs as in Beam's coders.
use Rattle.std.specs.Prelude.{ℕ, zero, suc, ◌+◌, ◌/◌, ◌%◌, ◌^◌, ℤ, pos, negsuc, ◌-◌, List, [], ◌∷◌, ◌++◌, length, if◌then◌else◌, nat_lt}
use Rattle.std.specs.List.{flat_map}
use Rattle.std.specs.Int.{w64, to_be_bytes}
use Rattle.beam_values.specs.declared.element.PaneTag.{PaneTag}
use Rattle.beam_values.specs.declared.element.Element.{Element}
use Rattle.beam_values.specs.Timings.{timing_number}
use Rattle.beam_values.specs.declared.value.Value.{Value}
use Rattle.beam_values.specs.declared.value.Value.TheOpen as layer
use Rattle.beam_values.specs.declared.value.Value.TheViews.{out-Value}
use Rattle.beam_values.specs.declared.value.Value.TheFolds.{fold-Value}

-- a number in base 128, least group first, a group with 128 added where another follows; `fuel` is more groups than it has
unfoldable pub groups : ℕ → ℕ → List ℕ
groups zero n = []
groups (suc fuel) n = if nat_lt n 128 then n ∷ [] else (128 + n % 128) ∷ groups fuel (n / 128)

-- the varint of a number
abbrev pub varint : ℕ → List ℕ
varint n = groups (suc n) n

-- a signed number of 64 bits as the unsigned one with the same bits
abbrev pub two's_complement : ℤ → ℕ
two's_complement (pos n) = n
two's_complement (negsuc n) = 2 ^ 64 - 1 - n

-- a string of bytes: a tag, its length, and the bytes
abbrev pub blob_spelling : List ℕ → List ℕ
blob_spelling bytes = 2 ∷ (varint (length bytes) ++ bytes)

-- one layer of a value, with the spelling of each inner value in its place
abbrev pub spelling_step : layer.Value-F (List ℕ) → List ℕ
spelling_step layer.Null = 0 ∷ []
spelling_step (layer.Int n) = 1 ∷ varint (two's_complement n)
spelling_step (layer.Blob bytes) = blob_spelling bytes
spelling_step (layer.Pair key value) = 3 ∷ (key ++ value)
spelling_step (layer.Seq items) = 4 ∷ (varint (length items) ++ flat_map (λ item. item) items)

-- the first byte of a spelling
abbrev pub tag_step : layer.Value-F Value → ℕ
tag_step layer.Null = 0
tag_step (layer.Int n) = 1
tag_step (layer.Blob bytes) = 2
tag_step (layer.Pair key value) = 3
tag_step (layer.Seq items) = 4

abbrev pub tag : Value → ℕ
tag v = tag_step (out-Value v)

-- the one spelling of a value
abbrev pub spelling : Value → List ℕ
spelling = fold-Value (List ℕ) spelling_step

-- 2 ^ 63 more: two's complement with the sign bit flipped
abbrev pub sign_flipped : ℤ → ℕ
sign_flipped (pos n) = 2 ^ 63 + n
sign_flipped (negsuc n) = 2 ^ 63 - 1 - n

-- a number of milliseconds in eight bytes, whose order is that of the numbers
unfoldable pub ms_spelling : ℤ → List ℕ
ms_spelling ms = to_be_bytes w64 (sign_flipped ms)

-- the timing's number and the index
abbrev pub pane_spelling : PaneTag → List ℕ
pane_spelling p = timing_number p.timing ∷ varint p.index

-- the one spelling of an element: its time, its window, its pane's tag and its value
abbrev pub element_spelling : Element → List ℕ
element_spelling e = ms_spelling e.time ++ (ms_spelling e.span.start ++ (ms_spelling e.span.end ++ (pane_spelling e.pane ++ spelling e.value)))
