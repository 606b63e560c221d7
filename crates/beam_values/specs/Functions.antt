-- What single lines and elements give: the source of timed lines, the split at the first TAB, fixed windows.
use Rattle.std.specs.Prelude.{ℕ, ◌+◌, ◌-◌, ◌*◌, ℤ, pos, ◌+ℤ◌, ◌-ℤ◌, Bool, ◌&&◌, List, [], ◌∷◌, length, Option, Some, None, if◌then◌else◌, ◌==◌, nat_le, nat_lt, fold, option_map}
use Rattle.std.specs.List.{position_or_len, before_first, after_first, list_all}
use Rattle.std.specs.Char.{is_ascii_digit}
use Rattle.std.specs.Int.{int_rem_euclid}
use Rattle.beam_values.specs.Intervals.{Interval}

abbrev pub is_tab : ℕ → Bool
is_tab byte = byte == 9

abbrev pub has_tab : List ℕ → Bool
has_tab text = nat_lt (position_or_len is_tab text) (length text)

-- the number that decimal digits write
abbrev pub digits_value : List ℕ → ℕ
digits_value digits = fold (λ n digit. 10 * n + (digit - 48)) 0 digits

-- 1 to 16 digits whose number is in the bounds of a time
abbrev pub is_time_text : List ℕ → Bool
is_time_text digits =
    nat_le 1 (length digits) && nat_le (length digits) 16 && list_all is_ascii_digit digits && nat_le (digits_value digits) 9223372036854775

-- the number of such digits
abbrev pub magnitude : List ℕ → Option ℕ
magnitude digits = if is_time_text digits then Some (digits_value digits) else None

-- a time as text: an optional `-`, then digits
abbrev pub time_of : List ℕ → Option ℤ
time_of [] = None
time_of (byte ∷ digits) =
    if byte == 45 then option_map (λ n. pos 0 -ℤ pos n) (magnitude digits) else option_map pos (magnitude (byte ∷ digits))

-- what a line of timed lines is
pub data TimedLine : Type 0 where
  -- a text at a time
  Timed : ℤ → List ℕ → TimedLine
  -- a watermark, and no element
  Declared : ℤ → TimedLine
  -- no timed line
  Poison : TimedLine

abbrev pub timed_as : Option ℤ → List ℕ → TimedLine
timed_as (Some time) text = Timed time text
timed_as None text = Poison

abbrev pub declared_as : Option ℤ → TimedLine
declared_as (Some time) = Declared time
declared_as None = Poison

-- a time, a TAB and the rest; or `!` and a time and nothing else
abbrev pub timed_line : List ℕ → TimedLine
timed_line [] = Poison
timed_line (byte ∷ rest) =
    if byte == 33 then declared_as (time_of rest)
    else (if has_tab (byte ∷ rest) then timed_as (time_of (before_first is_tab (byte ∷ rest))) (after_first is_tab (byte ∷ rest)) else Poison)

-- KeyField: the text before the first TAB, and what is after it; without a TAB all, and the empty text
pub record Keyed : Type 0 where
  pub key : List ℕ
  pub part : List ℕ

abbrev pub key_field : List ℕ → Keyed
key_field text = record { key = before_first is_tab text; part = after_first is_tab text }

-- the fixed window of a time: it starts at the greatest multiple of the size that isn't above the time (Guide, fixed time windows)
abbrev pub fixed_window : ℤ → ℤ → Interval
fixed_window size time =
    let start = time -ℤ int_rem_euclid time size in
    record { start = start; end = start +ℤ size }
