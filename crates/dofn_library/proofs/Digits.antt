-- The size of a number of few digits.
use Rattle.std.proofs.Common.{ℕ, ◌+◌, ◌*◌, ◌^◌, ◌<◌, ◌≤◌, arith, add-one, lit≤}
use Rattle.std.proofs.Math.Nat.{pow-suc, pow-le-pow_right}

-- one digit more
pub below_next_power : (value digit i : ℕ) → value < 10 ^ i → digit ≤ 9 → 10 * value + digit < 10 ^ (i + 1)
below_next_power value digit i below small = rw (add-one, pow-suc 10 i) (omega arith)

-- eighteen digits fit
pub below_eighteen : (value i : ℕ) → value < 10 ^ i → i ≤ 18 → value < 10 ^ 18
below_eighteen value i below small = omega (arith, pow-le-pow_right {n = 10} (lit≤ tt) small)
