-- The sliding windows of a time: how they go on from a start, where each of them lies, and how many there are.
use Rattle.std.proofs.Common.{◌≡◌, ℕ, zero, suc, ◌*◌, ◌<◌, ◌≤◌, ℤ, pos, negsuc, ◌+ℤ◌, ◌-ℤ◌, ◌*ℤ◌, ◌<ℤ◌, ◌≤ℤ◌, List, [], ◌∷◌, length, get_or, inl, inr, refl, sym, ap, ◌∙◌, arith}
use Rattle.std.specs.Int.{int_div_euclid}
use Rattle.std.proofs.lemmas.Int.{ints}
use Rattle.std.proofs.lemmas.Bool.{cases_lt}
use Rattle.beam_values.specs.Intervals.{Interval}
use Rattle.beam_values.specs.Windows.{window_from, windows_from, or_zero, sliding_windows, windows_of}
use Rattle.beam_values.specs.Strategies.{IsLength, IsAllowed, most_windows}
use Rattle.windowing.specs.Strategies.{windows_up_to}
use Rattle.beam_values.specs.declared.plan.Strategy.{Strategy}
use Rattle.beam_values.specs.declared.plan.Strategy.TheVariants.{Global, Fixed, Sliding, Sessions, Kept}
use Rattle.windowing.proofs.Euclid.{times_sum, times_more, div_low, div_high, goes_within, goes_beyond, div_is, ceil_above}

windows_from-zero : (size period start : ℤ) → windows_from size period start zero ≡ []
unfolding windows_from
windows_from-zero size period start = refl

windows_from-suc : (size period start : ℤ) (n : ℕ) → windows_from size period start (suc n) ≡ window_from size start ∷ windows_from size period (start +ℤ period) n
unfolding windows_from
windows_from-suc size period start n = refl

or_zero-more : (z : ℤ) → pos 0 ≤ℤ z → or_zero (z +ℤ pos 1) ≡ suc (or_zero z)
or_zero-more (pos n) some = omega arith
or_zero-more (negsuc n) some = absurd (omega (arith, ints))

or_zero-none : (z : ℤ) → z ≤ℤ pos 0 → or_zero z ≡ 0
or_zero-none (pos n) none = omega (arith, ints)
or_zero-none (negsuc n) none = refl

pub or_zero-is : (z : ℤ) → pos 0 ≤ℤ z → pos (or_zero z) ≡ z
or_zero-is (pos n) some = refl
or_zero-is (negsuc n) some = absurd (omega (arith, ints))

-- where the start is no later than the time, its window comes first
pub up_to_more : (size period time start : ℤ) → pos 1 ≤ℤ period → start ≤ℤ time
    → windows_up_to size period time start ≡ window_from size start ∷ windows_up_to size period time (start +ℤ period)
up_to_more size period time start some le =
    let rest = int_div_euclid (time -ℤ (start +ℤ period)) period in
    let more : int_div_euclid (time -ℤ start) period ≡ rest +ℤ pos 1 =
    div_is (time -ℤ start) period (rest +ℤ pos 1) some
    (omega (arith, ints, times_more period rest, div_low (time -ℤ (start +ℤ period)) period some))
    (omega (arith, ints, times_more period rest, div_high (time -ℤ (start +ℤ period)) period some)) in
    let counted : pos 0 ≤ℤ (rest +ℤ pos 1) =
    omega (arith, ints, more, goes_within (time -ℤ start) period (pos 0) some (omega (arith, ints))) in
    ap (λ (z : ℤ). windows_from size period start (or_zero (z +ℤ pos 1))) more
    ∙ ap (windows_from size period start) (or_zero-more (rest +ℤ pos 1) counted)
    ∙ windows_from-suc size period start (or_zero (rest +ℤ pos 1))

-- from a start after the time on there is none
pub up_to_none : (size period time start : ℤ) → pos 1 ≤ℤ period → time <ℤ start → windows_up_to size period time start ≡ []
up_to_none size period time start some lt =
    let before : int_div_euclid (time -ℤ start) period <ℤ pos 0 = goes_beyond (time -ℤ start) period (pos 0) some (omega (arith, ints)) in
    ap (windows_from size period start) (or_zero-none (int_div_euclid (time -ℤ start) period +ℤ pos 1) (omega (arith, ints)))
    ∙ windows_from-zero size period start

-- from the first start on they are all
pub up_to_is_sliding : (size period time : ℤ) → pos 1 ≤ℤ period
    → windows_up_to size period time (period *ℤ (int_div_euclid (time -ℤ size) period +ℤ pos 1)) ≡ sliding_windows size period time
up_to_is_sliding size period time some =
    let before = int_div_euclid (time -ℤ size) period in
    let last = int_div_euclid time period in
    let first = before +ℤ pos 1 in
    let parts : (period *ℤ (last -ℤ first)) +ℤ (period *ℤ first) ≡ period *ℤ last =
    sym (times_sum period (last -ℤ first) first) ∙ ap (λ (z : ℤ). period *ℤ z) (omega (arith, ints)) in
    let count : int_div_euclid (time -ℤ (period *ℤ first)) period ≡ last -ℤ first =
    div_is (time -ℤ (period *ℤ first)) period (last -ℤ first) some
    (omega (arith, ints, parts, div_low time period some))
    (omega (arith, ints, parts, div_high time period some)) in
    let number : int_div_euclid (time -ℤ (period *ℤ first)) period +ℤ pos 1 ≡ last -ℤ before = omega (arith, ints, count) in
    ap (λ (z : ℤ). windows_from size period (period *ℤ first) (or_zero z)) number

pub length-windows_from : (size period start : ℤ) (n : ℕ) → length (windows_from size period start n) ≡ n
length-windows_from size period start zero = ap length (windows_from-zero size period start)
length-windows_from size period start (suc n) = ap length (windows_from-suc size period start n) ∙ ap suc (length-windows_from size period (start +ℤ period) n)

-- each window starts so many periods after the first
pub windows_from-at : (size period start : ℤ) (n k : ℕ) (d : Interval) → k < n
    → get_or (windows_from size period start n) k d ≡ window_from size (start +ℤ (period *ℤ pos k))
windows_from-at size period start zero k d lt = absurd (omega arith)
windows_from-at size period start (suc n) zero d lt =
    ap (λ (xs : List Interval). get_or xs 0 d) (windows_from-suc size period start n) ∙ ap (window_from size) (omega (arith, ints))
windows_from-at size period start (suc n) (suc k) d lt =
    let more : (start +ℤ period) +ℤ (period *ℤ pos k) ≡ start +ℤ (period *ℤ pos (suc k)) = omega (arith, ints, times_more period (pos k)) in
    ap (λ (xs : List Interval). get_or xs (suc k) d) (windows_from-suc size period start n)
    ∙ windows_from-at size period (start +ℤ period) n k d (omega arith)
    ∙ ap (window_from size) more

-- so many at most
pub few : (size period time : ℤ) → IsLength size → IsLength period → most_windows size period ≤ 1024 → length (sliding_windows size period time) ≤ 1024
few (pos s) (pos p) time s_in p_in most =
    let size = pos s in
    let period = pos p in
    let some : pos 1 ≤ℤ period = p_in.0 in
    let before = int_div_euclid (time -ℤ size) period in
    let last = int_div_euclid time period in
    let short : s ≤ 1024 * p = elim (cases_lt (1024 * p) s) [
      | inl h ↦ absurd (omega (arith, ceil_above s p 1024 (omega (arith, ints)) h))
      | inr h ↦ h
    ] in
    let beyond : time <ℤ (period *ℤ (before +ℤ pos 1025)) =
    omega (arith, ints, short, times_sum period before (pos 1025), div_high (time -ℤ size) period some) in
    let end : last <ℤ (before +ℤ pos 1025) = goes_beyond time period (before +ℤ pos 1025) some beyond in
    omega (arith, length-windows_from size period (period *ℤ (before +ℤ pos 1)) (or_zero (last -ℤ before)), count (last -ℤ before) (omega (arith, ints, end)))
  where
    count : (z : ℤ) → z <ℤ pos 1025 → or_zero z ≤ 1024
    count (pos n) lt = omega (arith, ints)
    count (negsuc n) lt = omega arith
few (negsuc s) period time s_in p_in most = absurd (omega (arith, ints, s_in.0))
few (pos s) (negsuc p) time s_in p_in most = absurd (omega (arith, ints, p_in.0))

pub few_of : (s : Strategy) (time : ℤ) → IsAllowed s → length (windows_of s time) ≤ 1024
few_of Global time allowed = omega arith
few_of (Fixed size) time allowed = omega arith
few_of (Sliding size period) time allowed = few size period time allowed.0 allowed.1 allowed.2
few_of (Sessions gap) time allowed = omega arith
few_of Kept time allowed = omega arith
