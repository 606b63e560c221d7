-- Half-open intervals: of times for windows, of offsets for restrictions.
use Rattle.std.specs.Prelude.{ℕ, ℤ, if◌then◌else◌, ◌&&◌, nat_le, nat_lt}

-- a window `[start, end)` of milliseconds
pub record Interval : Type 0 where
  pub start : ℤ
  pub end : ℤ

-- a restriction `[from, to)` of offsets
pub record Offsets : Type 0 where
  pub from : ℕ
  pub to : ℕ

-- how often an offset lies in a restriction: once or not at all
abbrev pub times_in : Offsets → ℕ → ℕ
times_in r p = if nat_le r.from p && nat_lt p r.to then 1 else 0
