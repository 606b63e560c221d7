-- The forms of numbers, of times and windows, and of truth values.
use Rattle.std.specs.Prelude.{ℕ, ◌-◌, ◌^◌, ◌<◌, ℤ, pos, negsuc, Bool, true, false, ◌==◌, ◌&&◌, ◌||◌, if◌then◌else◌, nat_lt, int_le, Option, Some, None}
use Rattle.std.specs.Int.{w64}
use Rattle.std.specs.Int.RustNames.{FitsSigned}
use Rattle.std.specs.Ordering.{int_eq}
use Rattle.beam_values.specs.declared.value.Value.TheVariants.{Int}
use Rattle.beam_values.specs.Times.{least_time, greatest_time, final_mark, IsTime, IsMark}
use Rattle.beam_coders.specs.Reading.{signed}
use Rattle.value_forms.specs.Parts.{◌>>=◌, int_at}
use Rattle.value_forms.specs.Forms.{Form, passing}

-- A signed number that passes a test is an Int: -5 is `Int(-5)`.
abbrev pub int_form : (ℤ → Bool) → (ℤ → Type 0) → Form ℤ
int_form test Fits = record { to = Int; of = λ v. int_at v >>= passing test; Fits = Fits; depth = λ _. 0 }

-- a signed number of 64 bits
abbrev pub signed_form : Form ℤ
signed_form = int_form (λ _. true) (FitsSigned w64)

abbrev pub is_time : ℤ → Bool
is_time t = int_le least_time t && int_le t greatest_time

-- A time is its milliseconds: 1 s after the epoch is `Int(1000)`, and `Int(9223372036854776)` is none.
abbrev pub time_form : Form ℤ
time_form = int_form is_time IsTime

-- A mark is its milliseconds: the final one is `Int(9223372036854775807)`.
abbrev pub mark_form : Form ℤ
mark_form = int_form (λ m. is_time m || int_eq m final_mark) IsMark

abbrev pub below : ℕ → ℤ → Option ℕ
below bound (pos n) = if nat_lt n bound then Some n else None
below bound (negsuc n) = None

-- A whole number below a bound is an Int: with the bound 256, 255 is `Int(255)`, and `Int(256)` and `Int(-1)` are none.
abbrev pub nat_form : ℕ → Form ℕ
nat_form bound = record { to = λ n. Int (pos n); of = λ v. int_at v >>= below bound; Fits = λ n. n < bound; depth = λ _. 0 }

abbrev pub u8_form : Form ℕ
u8_form = nat_form (2 ^ 8)

abbrev pub u32_form : Form ℕ
u32_form = nat_form (2 ^ 32)

-- the 64 bits of a signed number, as the number that has them without a sign
abbrev pub bits_at : ℤ → Option ℕ
bits_at (pos n) = if nat_lt n (2 ^ 63) then Some n else None
bits_at (negsuc n) = if nat_lt n (2 ^ 63) then Some (2 ^ 64 - 1 - n) else None

-- A number of 64 bits without a sign is taken as these bits in two's complement: 2 ^ 64 - 1 is `Int(-1)`.
abbrev pub bits_form : Form ℕ
bits_form = record { to = λ n. Int (signed n); of = λ v. int_at v >>= bits_at; Fits = λ n. n < 2 ^ 64; depth = λ _. 0 }

abbrev pub flag_number : Bool → ℕ
flag_number false = 0
flag_number true = 1

abbrev pub flag_at : ℕ → Option Bool
flag_at n = if n == 0 then Some false else if n == 1 then Some true else None

-- A truth value is 0 or 1: true is `Int(1)`, and `Int(2)` is none.
abbrev pub flag_form : Form Bool
flag_form = record { to = λ b. Int (pos (flag_number b)); of = λ v. int_at v >>= below 2 >>= flag_at; Fits = λ _. Unit {0}; depth = λ _. 0 }
