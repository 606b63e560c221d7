-- Quotients and remainders by a positive divisor: the quotient is the one number of times that the divisor goes into a number.
use Rattle.std.proofs.Common.{◌≡◌, ℕ, ◌+◌, ◌*◌, ◌/◌, ◌<◌, ◌≤◌, inl, inr, ltb, ℤ, pos, negsuc, ◌+ℤ◌, ◌-ℤ◌, ◌*ℤ◌, ◌<ℤ◌, ◌≤ℤ◌, ap, ◌∙◌, arith}
use Rattle.std.proofs.Math.Nat.{mul-le-mul_left, div-le_self}
use Rattle.std.proofs.lemmas.Int.{ints, by_lt_z}
use Rattle.std.proofs.lemmas.Nat.{div-add-mod', mod_below}
use Rattle.std.proofs.lemmas.Bool.{cases_lt, cases_order}
use Rattle.std.proofs.lemmas.Bool.Decides.{nat_tests}
use Rattle.std.specs.Int.{int_div_euclid, int_rem_euclid, div_ceil}
use lib.Signed.{lt_z}
use Rattle.beam_values.specs.Windows.{or_zero}
use borrow.Author.Differences.{up, down, sum_is_lem, product_is}

-- so many times, and once more
pub times_more : (d x : ℤ) → d *ℤ (x +ℤ pos 1) ≡ (d *ℤ x) +ℤ d
times_more d x = omega (arith, ints, product_is d x, product_is d (x +ℤ pos 1), ap (λ n. up d * n) (sum_is_lem x (pos 1)), ap (λ n. down d * n) (sum_is_lem x (pos 1)))

pub times_sum : (d x y : ℤ) → d *ℤ (x +ℤ y) ≡ (d *ℤ x) +ℤ (d *ℤ y)
times_sum d x y = omega (arith, ints, product_is d x, product_is d y, product_is d (x +ℤ y), ap (λ n. up d * n) (sum_is_lem x y), ap (λ n. down d * n) (sum_is_lem x y))

pub times_rises : (d x y : ℤ) → pos 1 ≤ℤ d → x ≤ℤ y → (d *ℤ x) ≤ℤ (d *ℤ y)
times_rises (pos b) x y some le =
    let order : up x + down y ≤ up y + down x = omega (arith, ints) in
    omega (arith, ints, product_is (pos b) x, product_is (pos b) y, mul-le-mul_left b order)
times_rises (negsuc b) x y some le = absurd (omega (arith, ints))

-- more times by one or more give at least the divisor more
pub times_apart : (d x y : ℤ) → pos 1 ≤ℤ d → x <ℤ y → ((d *ℤ x) +ℤ d) ≤ℤ (d *ℤ y)
times_apart d x y some lt =
    let le : (x +ℤ pos 1) ≤ℤ y = omega (arith, ints) in
    omega (arith, ints, times_more d x, times_rises d (x +ℤ pos 1) y some le)

pub rem_is : (z d : ℤ) → pos 1 ≤ℤ d → int_rem_euclid z d ≡ z -ℤ (d *ℤ int_div_euclid z d)
rem_is (pos a) (pos b) some = omega (arith, ints, div-add-mod' a b)
rem_is (negsuc a) (pos b) some =
    let within : 0 < b = omega (arith, ints) in
    omega (arith, ints, div-add-mod' a b, mod_below a b within)
rem_is z (negsuc b) some = absurd (omega (arith, ints))

pub rem_low : (z d : ℤ) → pos 1 ≤ℤ d → pos 0 ≤ℤ int_rem_euclid z d
rem_low (pos a) d some = omega (arith, ints)
rem_low (negsuc a) d some = omega (arith, ints)

pub rem_high : (z d : ℤ) → pos 1 ≤ℤ d → int_rem_euclid z d <ℤ d
rem_high (pos a) (pos b) some = let within : 0 < b = omega (arith, ints) in omega (arith, ints, mod_below a b within)
rem_high (negsuc a) (pos b) some = let within : 0 < b = omega (arith, ints) in omega (arith, ints, mod_below a b within)
rem_high z (negsuc b) some = absurd (omega (arith, ints))

pub div_low : (z d : ℤ) → pos 1 ≤ℤ d → (d *ℤ int_div_euclid z d) ≤ℤ z
div_low z d some = omega (arith, ints, rem_is z d some, rem_low z d some)

pub div_high : (z d : ℤ) → pos 1 ≤ℤ d → z <ℤ ((d *ℤ int_div_euclid z d) +ℤ d)
div_high z d some = omega (arith, ints, rem_is z d some, rem_high z d some)

-- a quotient is as near to 0 as the number
pub div_within : (z d : ℤ) (h : ℕ) → pos 1 ≤ℤ d → negsuc h ≤ℤ z → z ≤ℤ pos h → (negsuc h ≤ℤ int_div_euclid z d) × (int_div_euclid z d ≤ℤ pos h)
div_within (pos a) (pos b) h some low high = (omega (arith, ints), omega (arith, ints, div-le_self a b))
div_within (negsuc a) (pos b) h some low high = (omega (arith, ints, div-le_self a b), omega (arith, ints))
div_within z (negsuc b) h some low high = absurd (omega (arith, ints))

-- a number of times that goes is no more than the quotient, and one that goes beyond is more
pub goes_within : (z d q : ℤ) → pos 1 ≤ℤ d → (d *ℤ q) ≤ℤ z → q ≤ℤ int_div_euclid z d
goes_within z d q some le =
    by_lt_z (int_div_euclid z d) q
    (λ lt. absurd (omega (arith, ints, times_apart d (int_div_euclid z d) q some lt, div_high z d some)))
    (λ h. h)

pub goes_beyond : (z d q : ℤ) → pos 1 ≤ℤ d → z <ℤ (d *ℤ q) → int_div_euclid z d <ℤ q
goes_beyond z d q some lt =
    by_lt_z (int_div_euclid z d) q
    (λ h. h)
    (λ le. absurd (omega (arith, ints, times_rises d q (int_div_euclid z d) some le, div_low z d some)))

-- the quotient is the one number of times that goes and leaves less than the divisor
pub div_is : (z d q : ℤ) → pos 1 ≤ℤ d → (d *ℤ q) ≤ℤ z → z <ℤ ((d *ℤ q) +ℤ d) → int_div_euclid z d ≡ q
div_is z d q some low high =
    let above : z <ℤ (d *ℤ (q +ℤ pos 1)) = omega (arith, ints, times_more d q) in
    omega (arith, ints, goes_within z d q some low, goes_beyond z d (q +ℤ pos 1) some above)

-- multiples, and no others, leave nothing
pub rem_of_times : (d q : ℤ) → pos 1 ≤ℤ d → int_rem_euclid (d *ℤ q) d ≡ pos 0
rem_of_times d q some =
    let all : int_div_euclid (d *ℤ q) d ≡ q = div_is (d *ℤ q) d q some (omega (arith, ints)) (omega (arith, ints)) in
    omega (arith, ints, rem_is (d *ℤ q) d some, ap (λ n. d *ℤ n) all)

pub times_of_rem : (z d : ℤ) → pos 1 ≤ℤ d → int_rem_euclid z d ≡ pos 0 → z ≡ d *ℤ int_div_euclid z d
times_of_rem z d some none = omega (arith, ints, rem_is z d some)

-- the quotient rounded up is above a bound exactly where the number is above that many times the divisor
pub ceil_above : (s p n : ℕ) → 0 < p → n * p < s → n < div_ceil s p
ceil_above s p n some above =
    elim (cases_order (s / p) n) [
      | inl e ↦ omega (arith, div-add-mod' s p, ap (λ (k : ℕ). k * p) e)
      | inr (inl lt) ↦ let more : s / p + 1 ≤ n = omega arith in absurd (omega (arith, div-add-mod' s p, mod_below s p some, mul-le-mul_left p more))
      | inr (inr gt) ↦ omega arith
    ]

ceil_within : (s p n : ℕ) → 0 < p → s ≤ n * p → div_ceil s p ≤ n
ceil_within s p n some within =
    elim (cases_order (s / p) n) [
      | inl e ↦ omega (arith, div-add-mod' s p, ap (λ (k : ℕ). k * p) e)
      | inr (inl lt) ↦ omega arith
      | inr (inr gt) ↦ let more : n + 1 ≤ s / p = omega arith in absurd (omega (arith, div-add-mod' s p, mul-le-mul_left p more))
    ]

pub ceil_test : (s p n : ℕ) → 0 < p → ltb (n * p) s ≡ ltb n (div_ceil s p)
ceil_test s p n some =
    elim (cases_lt (n * p) s) [
      | inl h ↦ let up : n < div_ceil s p = ceil_above s p n some h in grind (arith, nat_tests)
      | inr h ↦ let down : div_ceil s p ≤ n = ceil_within s p n some h in grind (arith, nat_tests)
    ]

-- the same of a size and a period
pub periods_test : (size period bound : ℤ) → pos 1 ≤ℤ size → pos 1 ≤ℤ period → bound ≡ pos 1024 *ℤ period
    → lt_z bound size ≡ ltb 1024 (div_ceil (or_zero size) (or_zero period))
periods_test (pos s) (pos p) bound s_in p_in e = ap (λ (z : ℤ). lt_z z (pos s)) e ∙ ceil_test s p 1024 (omega (arith, ints))
periods_test (negsuc s) period bound s_in p_in e = absurd (omega (arith, ints))
periods_test (pos s) (negsuc p) bound s_in p_in e = absurd (omega (arith, ints))
