-- Numbers as words of a command line.
use Rattle.std.specs.Prelude.{◌≤◌, ℕ, Bool, ◌&&◌, nat_lt, nat_le, if◌then◌else◌, List, length, Option, Some, None}
use Rattle.std.specs.Str.{all_ascii_digits}
use Rattle.std.specs.Str.Parse.{IsNumeral, digits_value, without_leading_plus}

-- an optional `+`, then decimal digits, one at least
abbrev pub is_number : List ℕ → Bool
is_number text = nat_lt 0 (length (without_leading_plus text)) && all_ascii_digits (without_leading_plus text)

abbrev pub number_of_text : List ℕ → ℕ
number_of_text text = digits_value 10 (without_leading_plus text)

abbrev pub is_number_within : ℕ → ℕ → List ℕ → Bool
is_number_within low high text = is_number text && (nat_le low (number_of_text text) && nat_le (number_of_text text) high)

-- The number that a word is, if it lies in these bounds. Within 1 to 16 `+3` is 3, and none of `17`, `0`, `-1`, `3.0`
-- and the empty word is one.
abbrev pub number_within : ℕ → ℕ → List ℕ → Option ℕ
number_within low high text = if is_number_within low high text then Some (number_of_text text) else None

-- the same as a fact
pub record IsNumberWithin (low high : ℕ) (text : List ℕ) : Type 0 where
  pub numeral : IsNumeral 10 (without_leading_plus text)
  pub least : low ≤ number_of_text text
  pub greatest : number_of_text text ≤ high
