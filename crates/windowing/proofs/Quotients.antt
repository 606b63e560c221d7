-- What the quotients of a sliding assignment are, and that their sums and products have 64 bits.
use Rattle.std.proofs.Common.{◌≡◌, ℤ, pos, negsuc, nat_abs, ◌+ℤ◌, ◌-ℤ◌, ◌*ℤ◌, ◌≤ℤ◌, T, Fits, ap, ◌∙◌, arith}
use Rattle.std.specs.Int.{w64, cast_signed, cast_unsigned, int_div_euclid}
use Rattle.std.specs.Int.Signed.{non_neg}
use Rattle.std.specs.Int.RustNames.{FitsSigned}
use Rattle.std.proofs.lemmas.Int.{ints}
use Rattle.beam_values.specs.Times.{IsTime}
use Rattle.beam_values.specs.Windows.{sliding_windows}
use Rattle.beam_values.specs.Strategies.{IsLength}
use Rattle.windowing.specs.Strategies.{windows_up_to}
use Rattle.windowing.proofs.Euclid.{div_within, div_low, div_high, goes_within, times_more}
use Rattle.windowing.proofs.Sliding.{up_to_is_sliding}

-- a number as code of 64 bits reads it
abbrev pub read : ℤ → ℤ
read z = cast_signed w64 (cast_unsigned w64 z)

pub record AreQuotients (size period time before last : ℤ) : Type 0 where
  pub before_is : before ≡ int_div_euclid (time -ℤ size) period
  pub ordered : before ≤ℤ last
  pub low : negsuc 9300000000000000 ≤ℤ before
  pub high : last ≤ℤ pos 9300000000000000

pub quotients : (size period time ms before last : ℤ) → IsLength size → IsLength period → ms ≡ time → IsTime time
    → before ≡ int_div_euclid (read (read ms -ℤ read size)) (read period) → last ≡ int_div_euclid (read ms) (read period)
    → AreQuotients size period time before last
quotients size period time ms before last size_in period_in is time_in b l =
    let from : read (read ms -ℤ read size) ≡ time -ℤ size = omega (arith, ints, size_in.0, size_in.1, time_in.0, time_in.1) in
    let to : read ms ≡ time = omega (arith, ints, time_in.0, time_in.1) in
    let by : read period ≡ period = omega (arith, ints, period_in.0, period_in.1) in
    joined (b ∙ (λ i. int_div_euclid (from i) (by i))) (l ∙ (λ i. int_div_euclid (to i) (by i)))
  where
    joined : before ≡ int_div_euclid (time -ℤ size) period → last ≡ int_div_euclid time period → AreQuotients size period time before last
    joined e f =
        let near = div_within (time -ℤ size) period 9300000000000000 period_in.0 (omega (arith, ints, size_in.0, size_in.1, time_in.0, time_in.1)) (omega (arith, ints, size_in.0, size_in.1, time_in.0, time_in.1)) in
        let far = div_within time period 9300000000000000 period_in.0 (omega (arith, ints, time_in.0, time_in.1)) (omega (arith, ints, time_in.0, time_in.1)) in
        let goes : (period *ℤ int_div_euclid (time -ℤ size) period) ≤ℤ time = omega (arith, ints, size_in.0, div_low (time -ℤ size) period period_in.0) in
        record {
          before_is = e;
          ordered = omega (arith, ints, e, f, goes_within time period (int_div_euclid (time -ℤ size) period) period_in.0 goes);
          low = omega (arith, ints, e, near.0);
          high = omega (arith, ints, f, far.1);
        }

module _ (size period time before last : ℤ) (q : AreQuotients size period time before last) where
  pub difference_fits : FitsSigned w64 (read last -ℤ read before)
  difference_fits = omega (arith, ints, q.ordered, q.low, q.high)

  difference_is : read (read last -ℤ read before) ≡ last -ℤ before
  difference_is = omega (arith, ints, q.ordered, q.low, q.high)

  pub difference_counts : T (non_neg (read (read last -ℤ read before))) × Fits w64 (nat_abs (read (read last -ℤ read before)))
  difference_counts = (omega (arith, ints, difference_is, q.ordered), omega (arith, ints, difference_is, q.ordered, q.low, q.high))

  pub next_fits : FitsSigned w64 (read before +ℤ pos 1)
  next_fits = omega (arith, ints, q.ordered, q.low, q.high)

  next_is : read (read before +ℤ pos 1) ≡ before +ℤ pos 1
  next_is = omega (arith, ints, q.ordered, q.low, q.high)

  module _ (size_in : IsLength size) (period_in : IsLength period) (time_in : IsTime time) where
    first_code : read period *ℤ read (read before +ℤ pos 1) ≡ period *ℤ (before +ℤ pos 1)
    first_code = let by : read period ≡ period = omega (arith, ints, period_in.0, period_in.1) in λ i. by i *ℤ next_is i

    first_times : period *ℤ (before +ℤ pos 1) ≡ (period *ℤ int_div_euclid (time -ℤ size) period) +ℤ period
    first_times = times_more period before ∙ ap (λ (z : ℤ). (period *ℤ z) +ℤ period) q.before_is

    pub first_fits : FitsSigned w64 (read period *ℤ read (read before +ℤ pos 1))
    first_fits =
        omega (
          arith,
          ints,
          first_code,
          first_times,
          size_in.0,
          size_in.1,
          period_in.0,
          period_in.1,
          time_in.0,
          time_in.1,
          div_low (time -ℤ size) period period_in.0,
          div_high (time -ℤ size) period period_in.0,
        )

    first_read : read (read period *ℤ read (read before +ℤ pos 1)) ≡ period *ℤ (before +ℤ pos 1)
    first_read =
        omega (
          arith,
          ints,
          first_code,
          first_times,
          size_in.0,
          size_in.1,
          period_in.0,
          period_in.1,
          time_in.0,
          time_in.1,
          div_low (time -ℤ size) period period_in.0,
          div_high (time -ℤ size) period period_in.0,
        )

    -- the windows from the first start on are the sliding windows
    pub from_first : windows_up_to (read size) (read period) time (read (read period *ℤ read (read before +ℤ pos 1))) ≡ sliding_windows size period time
    from_first =
        let long : read size ≡ size = omega (arith, ints, size_in.0, size_in.1) in
        let by : read period ≡ period = omega (arith, ints, period_in.0, period_in.1) in
        (λ i. windows_up_to (long i) (by i) time (first_read i))
        ∙ ap (λ (z : ℤ). windows_up_to size period time (period *ℤ (z +ℤ pos 1))) q.before_is
        ∙ up_to_is_sliding size period time period_in.0
