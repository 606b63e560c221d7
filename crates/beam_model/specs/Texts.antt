-- What functions read in texts: words, fields, whole numbers. Texts are bytes.
use Rattle.std.specs.Prelude.{ℕ, ◌-◌, ◌^◌, ℤ, pos, ◌-ℤ◌, Bool, ◌&&◌, ◌==◌, if◌then◌else◌, nat_le, List, [], ◌∷◌, ◌++◌, length, take, bytes_eq, Option, Some, None}
use Rattle.std.specs.List.{list_all}
use Rattle.std.specs.Char.{is_ascii_digit, is_ascii_alphanumeric}
use Rattle.beam_values.specs.Functions.{is_tab, digits_value}

-- a run of letters and digits, if there is one
abbrev pub run : List ℕ → List (List ℕ)
run [] = []
run (byte ∷ bytes) = (byte ∷ bytes) ∷ []

abbrev pub words_after : List ℕ → List ℕ → List (List ℕ)
words_after taken [] = run taken
words_after taken (byte ∷ bytes) =
    if is_ascii_alphanumeric byte then words_after (taken ++ byte ∷ []) bytes else run taken ++ words_after [] bytes

-- the words of a text: its maximal runs of ASCII letters and digits, in order
abbrev pub words : List ℕ → List (List ℕ)
words text = words_after [] text

abbrev pub fields_after : List ℕ → List ℕ → List (List ℕ)
fields_after taken [] = taken ∷ []
fields_after taken (byte ∷ bytes) = if is_tab byte then taken ∷ fields_after [] bytes else fields_after (taken ++ byte ∷ []) bytes

-- the fields of a text: what stands before, between and after its TABs, one more than there are TABs
abbrev pub fields : List ℕ → List (List ℕ)
fields text = fields_after [] text

abbrev pub begins_with : List ℕ → List ℕ → Bool
begins_with prefix text = bytes_eq (take (length prefix) text) prefix

-- 1 to 19 decimal digits
abbrev pub is_int_digits : List ℕ → Bool
is_int_digits digits = nat_le 1 (length digits) && nat_le (length digits) 19 && list_all is_ascii_digit digits

-- their number, where it is at most this
abbrev pub up_to : ℕ → (ℕ → ℤ) → List ℕ → Option ℤ
up_to most signed digits =
    if is_int_digits digits && nat_le (digits_value digits) most then Some (signed (digits_value digits)) else None

-- a whole number of 64 bits as text: an optional `-`, then the digits
abbrev pub int_of : List ℕ → Option ℤ
int_of [] = None
int_of (byte ∷ digits) =
    if byte == 45 then up_to (2 ^ 63) (λ n. pos 0 -ℤ pos n) digits else up_to (2 ^ 63 - 1) pos (byte ∷ digits)
