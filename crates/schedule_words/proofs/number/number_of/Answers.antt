use Rattle.std.proofs.Common.{◌<◌, ◌^◌, ◌≤◌, ℕ, arith, lit≤}
use Rattle.std.proofs.Math.Nat.{pow-le-pow_right}
use Rattle.schedule_words.proofs.number.number_of.Goals as goal

-- before a digit there are at most six
below_six : (value i : ℕ) → value < 10 ^ i → i ≤ 6 → value < 10 ^ 6
below_six value i below small = omega (arith, pow-le-pow_right {n = 10} (lit≤ tt) small)

pub overflow_mul-value : goal.overflow_mul-value
overflow_mul-value c = omega (arith, below_six c.loop-digit.value c.loop-digit.digit-index c.loop-digit.invariant.small (omega arith))

pub overflow_add-value : goal.overflow_add-value
overflow_add-value c = omega (arith, below_six c.loop-digit.value c.loop-digit.digit-index c.loop-digit.invariant.small (omega arith))
