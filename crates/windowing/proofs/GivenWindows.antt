-- The windows of a time are the spans of the strategy's kind that hold it, each once and in ascending order.
use Rattle.std.proofs.Common.{◌≡◌, ℕ, ◌+◌, ◌<◌, ℤ, pos, ◌+ℤ◌, ◌-ℤ◌, ◌*ℤ◌, ◌<ℤ◌, ◌≤ℤ◌, [], ◌∷◌, length, get_or, refl, sym, ap, subst, ◌∙◌, arith}
use Rattle.std.specs.List.{All, Contains, AllAdjacentBelow}
use Rattle.std.specs.Int.{int_div_euclid, int_rem_euclid}
use Rattle.std.proofs.lemmas.Int.{ints}
use Rattle.std.proofs.lemmas.List.Elements.{All-cons, All-nil}
use Rattle.beam_values.specs.Intervals.{Interval}
use Rattle.beam_values.specs.Times.{IsTime}
use Rattle.beam_values.specs.Functions.{fixed_window}
use Rattle.beam_values.specs.Windows.{global_window, HoldsTime, window_from, IsWindow, or_zero, sliding_windows, windows_of}
use Rattle.beam_values.specs.declared.plan.Strategy.{Strategy}
use Rattle.beam_values.specs.declared.plan.Strategy.TheVariants.{Global, Fixed, Sliding, Sessions, Kept}
use Rattle.beam_values.specs.Strategies.{IsAllowed}
use Rattle.windowing.proofs.Euclid.{rem_is, div_low, div_high, div_is, goes_within, goes_beyond, times_sum, times_more, times_rises, rem_of_times, times_of_rem}
use Rattle.windowing.proofs.Sliding.{or_zero-is, length-windows_from, windows_from-at}

module _ {X : Type 0} where
  one_all : (P : X → Type 0) (x : X) → P x → All P (x ∷ [])
  one_all P x h = All-cons P x [] h (All-nil P)

  one_contains : (x y : X) → y ≡ x → Contains (x ∷ []) y
  one_contains x y e = (0, omega arith, sym e)

  one_ascends : (R : X → X → Type 0) (x : X) → AllAdjacentBelow R (x ∷ []) 1
  one_ascends R x k d within = absurd (omega arith)

module _ (size time : ℤ) (some : pos 1 ≤ℤ size) where
  fixed_start : (fixed_window size time).start ≡ size *ℤ int_div_euclid time size
  fixed_start = omega (arith, ints, rem_is time size some)

  fixed_is_window : IsWindow (Fixed size) time (fixed_window size time)
  fixed_is_window = (
    (omega (arith, ints, fixed_start, div_low time size some), omega (arith, ints, fixed_start, div_high time size some)),
    refl,
    ap (λ (z : ℤ). int_rem_euclid z size) fixed_start ∙ rem_of_times size (int_div_euclid time size) some,
  )

  fixed_is_given : (span : Interval) → IsWindow (Fixed size) time span → span ≡ fixed_window size time
  fixed_is_given span h =
      let q = int_div_euclid span.start size in
      let start : span.start ≡ size *ℤ q = times_of_rem span.start size some h.2 in
      let end : span.end ≡ span.start +ℤ size = ap (λ (w : Interval). w.end) h.1 in
      let same : int_div_euclid time size ≡ q =
      div_is time size q some (omega (arith, ints, start, h.0.0)) (omega (arith, ints, start, end, h.0.1)) in
      let starts : span.start ≡ (fixed_window size time).start = start ∙ ap (λ (z : ℤ). size *ℤ z) (sym same) ∙ sym fixed_start in
      h.1 ∙ ap (window_from size) starts

module _ (size period time : ℤ) (long : pos 1 ≤ℤ size) (some : pos 1 ≤ℤ period) where
  abbrev before : ℤ
  before = int_div_euclid (time -ℤ size) period

  abbrev last : ℤ
  last = int_div_euclid time period

  abbrev count : ℕ
  count = or_zero (last -ℤ before)

  count_is : pos count ≡ last -ℤ before
  count_is =
      or_zero-is (last -ℤ before)
      (omega (arith, ints, goes_within time period before some (omega (arith, ints, div_low (time -ℤ size) period some))))

  sliding_length : length (sliding_windows size period time) ≡ count
  sliding_length = length-windows_from size period (period *ℤ (before +ℤ pos 1)) count

  -- the multiple of the period at which such a window starts
  abbrev start_at : ℕ → ℤ
  start_at k = period *ℤ ((before +ℤ pos 1) +ℤ pos k)

  sliding_at : (k : ℕ) (d : Interval) → k < count → get_or (sliding_windows size period time) k d ≡ window_from size (start_at k)
  sliding_at k d lt =
      windows_from-at size period (period *ℤ (before +ℤ pos 1)) count k d lt
      ∙ ap (window_from size) (sym (times_sum period (before +ℤ pos 1) (pos k)))

  start_is_window : (k : ℕ) → k < count → IsWindow (Sliding size period) time (window_from size (start_at k))
  start_is_window k lt =
      let within : ((before +ℤ pos 1) +ℤ pos k) ≤ℤ last = omega (arith, ints, count_is) in
      let beyond : (before +ℤ pos 1) ≤ℤ ((before +ℤ pos 1) +ℤ pos k) = omega (arith, ints) in (
        (
          omega (arith, ints, times_rises period ((before +ℤ pos 1) +ℤ pos k) last some within, div_low time period some),
          omega (arith, ints, times_rises period (before +ℤ pos 1) ((before +ℤ pos 1) +ℤ pos k) some beyond, times_more period before, div_high (time -ℤ size) period some),
        ),
        refl,
        rem_of_times period ((before +ℤ pos 1) +ℤ pos k) some,
      )

  sliding_are_windows : All (IsWindow (Sliding size period) time) (sliding_windows size period time)
  sliding_are_windows k d lt =
      let at = sliding_at k d (omega (arith, sliding_length)) in
      subst (IsWindow (Sliding size period) time) (sym at) (start_is_window k (omega (arith, sliding_length)))

  sliding_is_given : (span : Interval) → IsWindow (Sliding size period) time span → Contains (sliding_windows size period time) span
  sliding_is_given span h =
      let q = int_div_euclid span.start period in
      let start : span.start ≡ period *ℤ q = times_of_rem span.start period some h.2 in
      let end : span.end ≡ span.start +ℤ size = ap (λ (w : Interval). w.end) h.1 in
      let within : q ≤ℤ last = goes_within time period q some (omega (arith, ints, start, h.0.0)) in
      let beyond : before <ℤ q = goes_beyond (time -ℤ size) period q some (omega (arith, ints, start, end, h.0.1)) in
      let k = or_zero (q -ℤ (before +ℤ pos 1)) in
      let k_is : pos k ≡ q -ℤ (before +ℤ pos 1) = or_zero-is (q -ℤ (before +ℤ pos 1)) (omega (arith, ints)) in
      let inside : k < count = omega (arith, ints, count_is) in
      let at : start_at k ≡ span.start = ap (λ (z : ℤ). period *ℤ z) (omega (arith, ints, k_is)) ∙ sym start in
      (k, omega (arith, sliding_length), sliding_at k span inside ∙ ap (window_from size) at ∙ sym h.1)

  sliding_ascend : AllAdjacentBelow (λ (a b : Interval). a.start <ℤ b.start) (sliding_windows size period time) (length (sliding_windows size period time))
  sliding_ascend k d lt =
      let first = sliding_at k d (omega (arith, sliding_length)) in
      let second = sliding_at (k + 1) d (omega (arith, sliding_length)) in
      let more : start_at (k + 1) ≡ start_at k +ℤ period =
      ap (λ (z : ℤ). period *ℤ z) (omega (arith, ints)) ∙ times_more period ((before +ℤ pos 1) +ℤ pos k) in
      omega (arith, ints, ap (λ (w : Interval). w.start) first, ap (λ (w : Interval). w.start) second)

pub are_windows : (s : Strategy) (time : ℤ) → IsAllowed s → All (IsWindow s time) (windows_of s time)
are_windows Global time allowed = one_all (IsWindow Global time) global_window refl
are_windows (Fixed size) time allowed = one_all (IsWindow (Fixed size) time) (fixed_window size time) (fixed_is_window size time allowed.0)
are_windows (Sliding size period) time allowed = sliding_are_windows size period time allowed.0.0 allowed.1.0
are_windows (Sessions gap) time allowed = one_all (IsWindow (Sessions gap) time) (window_from gap time) refl
are_windows Kept time allowed = All-nil (IsWindow Kept time)

pub are_given : (s : Strategy) (time : ℤ) → IsAllowed s → (span : Interval) → IsWindow s time span → Contains (windows_of s time) span
are_given Global time allowed span h = one_contains global_window span h
are_given (Fixed size) time allowed span h = one_contains (fixed_window size time) span (fixed_is_given size time allowed.0 span h)
are_given (Sliding size period) time allowed span h = sliding_is_given size period time allowed.0.0 allowed.1.0 span h
are_given (Sessions gap) time allowed span h = one_contains (window_from gap time) span h
are_given Kept time allowed span h = absurd h

pub ascend : (s : Strategy) (time : ℤ) → IsAllowed s → AllAdjacentBelow (λ (a b : Interval). a.start <ℤ b.start) (windows_of s time) (length (windows_of s time))
ascend Global time allowed k d lt = absurd (omega arith)
ascend (Fixed size) time allowed k d lt = absurd (omega arith)
ascend (Sliding size period) time allowed k d lt = sliding_ascend size period time allowed.0.0 allowed.1.0 k d lt
ascend (Sessions gap) time allowed k d lt = absurd (omega arith)
ascend Kept time allowed k d lt = absurd (omega arith)

pub hold : (s : Strategy) (time : ℤ) → IsAllowed s → IsTime time → All (λ span. HoldsTime span time) (windows_of s time)
hold Global time allowed real = one_all (λ span. HoldsTime span time) global_window (omega (arith, ints, real.0), omega (arith, ints, real.1))
hold (Fixed size) time allowed real = one_all (λ span. HoldsTime span time) (fixed_window size time) (fixed_is_window size time allowed.0).0
hold (Sliding size period) time allowed real = λ k d lt. (sliding_are_windows size period time allowed.0.0 allowed.1.0 k d lt).0
hold (Sessions gap) time allowed real = one_all (λ span. HoldsTime span time) (window_from gap time) (omega (arith, ints), omega (arith, ints, allowed.0))
hold Kept time allowed real = All-nil (λ span. HoldsTime span time)
