-- The size of a number of few digits.
use Rattle.std.proofs.Common.{ℕ, ◌+◌, ◌*◌, ◌^◌, ◌<◌, ◌≤◌, arith, add-one, lit≤}
use Rattle.std.proofs.Math.Nat.{pow-suc, pow-le-pow_right}

-- one digit more
pub below_next_power : (value digit i : ℕ) → value < 10 ^ i → digit ≤ 9 → 10 * value + digit < 10 ^ (i + 1)
below_next_power value digit i below small = rw (add-one, pow-suc 10 i) (omega arith)

-- fifteen digits fit
pub below_fifteen : (value i : ℕ) → value < 10 ^ i → i ≤ 15 → value < 10 ^ 15
below_fifteen value i below small = omega (arith, pow-le-pow_right {n = 10} (lit≤ tt) small)

-- so do sixteen
pub below_sixteen : (value i : ℕ) → value < 10 ^ i → i ≤ 16 → value < 10 ^ 16
below_sixteen value i below small = omega (arith, pow-le-pow_right {n = 10} (lit≤ tt) small)
