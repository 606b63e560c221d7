-- Parts by what they weigh: sums over a list that no order of it changes.
use Rattle.std.specs.Prelude.{ℕ, suc, ℤ, pos, negsuc, Bool, int_le, if◌then◌else◌, is_some, List, Option, Some, None}
use Rattle.std.specs.List.{sum_by}
use Rattle.beam_values.specs.declared.value.Value.{Value}
use Rattle.beam_model.specs.Values.{as_int}

-- a part that is a whole number
abbrev pub is_number : Value → Bool
is_number part = is_some (as_int part)

-- what a whole number weighs, and what any other part does
abbrev pub weight : ℕ → (ℤ → ℕ) → Option ℤ → ℕ
weight other of None = other
weight other of (Some n) = of n

abbrev pub weigh : ℕ → (ℤ → ℕ) → List Value → ℕ
weigh other of parts = sum_by (λ part. weight other of (as_int part)) parts

abbrev pub no_weight : ℤ → ℕ
no_weight n = 0

abbrev pub above_zero : ℤ → ℕ
above_zero (pos n) = n
above_zero (negsuc n) = 0

abbrev pub below_zero : ℤ → ℕ
below_zero (pos n) = 0
below_zero (negsuc n) = suc n

abbrev pub one_if_reached : ℤ → ℤ → ℕ
one_if_reached bound n = if int_le bound n then 1 else 0

-- how many parts are no whole numbers: of 3, "a", -5 and 4 one
abbrev pub others_in : List Value → ℕ
others_in parts = weigh 1 no_weight parts

-- how far the numbers above zero go, all together, and those below: of 3, "a", -5 and 4 they go 7 and 5
abbrev pub all_above : List Value → ℕ
all_above parts = weigh 0 above_zero parts

abbrev pub all_below : List Value → ℕ
all_below parts = weigh 0 below_zero parts

-- how many numbers are at least the bound: of 3, "a", -5 and 4 two are at least 0, one is at least 4, and none at least 5
abbrev pub reaching : ℤ → List Value → ℕ
reaching bound parts = weigh 0 (one_if_reached bound) parts
