-- The rules of a tracker over a restriction of offsets (Splittable DoFn, OffsetRangeTracker; how a fraction is rounded is this profile's).
use Rattle.std.specs.Prelude.{ℕ, ◌+◌, ◌-◌, ◌*◌, ◌/◌, ◌<◌, ◌≤◌, ◌⊎◌, Bool, min, max, Option, Some, None, if◌then◌else◌, nat_lt}
use Rattle.beam_values.specs.Intervals.{Offsets}

-- the restriction that is worked, and the last position that was attempted in it
pub record Tracked : Type 0 where
  pub range : Offsets
  pub attempted : Option ℕ

-- p is above the last attempted position, if there is one
abbrev pub IsLater : Option ℕ → ℕ → Type 0
IsLater None p = Unit {0}
IsLater (Some last) p = last < p

-- positions are attempted in ascending order, from the start of the restriction on
pub record MayClaim (t : Tracked) (p : ℕ) : Type 0 where
  pub from_start : t.range.from ≤ p
  pub ascending : IsLater t.attempted p

-- the first offset above the last attempted position; the start of the restriction where none was attempted
abbrev pub first_unattempted : ℕ → Option ℕ → ℕ
first_unattempted from None = from
first_unattempted from (Some last) = last + 1

-- Where `cur` is the last attempted position, or one before the restriction, the first offset of the residual is
-- `cur` and then the part `num / den` of what is left, `to - cur`, rounded down, and at least 1. Here `cur + 1` is `next`.
-- At `[0, 100)` with 49 attempted, 1/2 gives 49 + 51 / 2 = 74; unstarted it gives -1 + 101 / 2 = 49.
abbrev pub split_point : ℕ → ℕ → ℕ → ℕ → ℕ
split_point next to num den = next + max 1 ((to + 1 - next) * num / den) - 1

abbrev pub split_point_of : Tracked → ℕ → ℕ → ℕ
split_point_of t num den = split_point (first_unattempted t.range.from t.attempted) t.range.to num den

-- the residual `[s, to)`, where s lies in the restriction
abbrev pub residual : ℕ → ℕ → Option Offsets
residual s to = if nat_lt s to then Some (record { from = s; to = to }) else None

-- the tracker goes on with `[from, s)`, where s lies in the restriction
abbrev pub primary : Tracked → ℕ → Tracked
primary t s = record { range = record { from = t.range.from; to = min s t.range.to }; attempted = t.attempted }

-- the work on a restriction is done: nothing is in it, or its last offset was attempted or passed
abbrev pub IsDone : Tracked → Type 0
IsDone t = (t.range.to ≤ t.range.from) ⊎ (t.range.to ≤ first_unattempted t.range.from t.attempted)

-- a position that is attempted is recorded, and granted where it lies before the end of the restriction
abbrev pub claimed : Tracked → ℕ → Tracked
claimed t p = record { range = t.range; attempted = Some p }

abbrev pub is_granted : Tracked → ℕ → Bool
is_granted t p = nat_lt p t.range.to
