-- How values and elements are printed.
use Rattle.std.specs.Prelude.{ℕ, Bool, ◌+◌, ◌/◌, ◌%◌, List, [], ◌∷◌, ◌++◌, if◌then◌else◌, ◌==◌, ◌||◌, nat_lt, codes, decimal}
use Rattle.std.specs.Fmt.{signed_decimal}
use Rattle.std.specs.List.{flat_map, join_by}
use Rattle.beam_values.specs.declared.value.Value.{Value}
use Rattle.beam_values.specs.declared.value.Value.TheOpen as layer
use Rattle.beam_values.specs.declared.value.Value.TheFolds.{fold-Value}
use Rattle.beam_values.specs.declared.element.Element.{Element}
use Rattle.beam_values.specs.declared.element.Timing.{Timing}
use Rattle.beam_values.specs.declared.element.Timing.TheVariants.{Early, OnTime, Late, Unknown}

-- a hexadecimal digit, in lower case
abbrev pub hex_digit : ℕ → ℕ
hex_digit n = if nat_lt n 10 then 48 + n else 87 + n

-- a byte inside a quoted text: `"` and `\` escaped, LF, CR and TAB by their letters, other unprintable ones by number
abbrev pub byte_text : ℕ → List ℕ
byte_text byte =
    if byte == 34 || byte == 92 then 92 ∷ byte ∷ []
    else (if byte == 10 then codes "\\n"
    else (if byte == 13 then codes "\\r"
    else (if byte == 9 then codes "\\t"
    else (if nat_lt byte 32 || nat_lt 126 byte then 92 ∷ 120 ∷ hex_digit (byte / 16) ∷ hex_digit (byte % 16) ∷ []
    else byte ∷ []))))

-- the bytes that are not printed as they are
abbrev pub is_escaped : ℕ → Bool
is_escaped byte = byte == 34 || byte == 92 || nat_lt byte 32 || nat_lt 126 byte

-- a byte string between quotes
abbrev pub blob_text : List ℕ → List ℕ
blob_text bytes = 34 ∷ (flat_map byte_text bytes ++ 34 ∷ [])

-- texts with commas between them
abbrev pub joined : List (List ℕ) → List ℕ
joined texts = join_by (λ text. text) (44 ∷ []) texts

-- one layer of a value, with the text of each inner value in its place
abbrev pub value_text_step : layer.Value-F (List ℕ) → List ℕ
value_text_step layer.Null = codes "null"
value_text_step (layer.Int n) = signed_decimal n
value_text_step (layer.Blob bytes) = blob_text bytes
value_text_step (layer.Pair key value) = 40 ∷ (key ++ 44 ∷ (value ++ 41 ∷ []))
value_text_step (layer.Seq items) = 91 ∷ (joined items ++ 93 ∷ [])

abbrev pub value_text : Value → List ℕ
value_text = fold-Value (List ℕ) value_text_step

abbrev pub timing_text : Timing → List ℕ
timing_text Early = codes "EARLY"
timing_text OnTime = codes "ON_TIME"
timing_text Late = codes "LATE"
timing_text Unknown = codes "UNKNOWN"

-- the line of a written element: its window, its pane's timing and index, and its value, with TABs between
abbrev pub element_line : Element → List ℕ
element_line e =
    signed_decimal e.span.start ++ 9 ∷ (signed_decimal e.span.end ++ 9 ∷ (timing_text e.pane.timing ++ 9 ∷ (decimal e.pane.index ++ 9 ∷ (value_text e.value ++ 10 ∷ []))))
