-- Sessions: overlapping windows of one key are one window (Beam Programming Guide, Session windows; The Dataflow Model, window merging).
use Rattle.std.specs.Prelude.{◌≡◌, ◌⊎◌, ℤ, ◌<ℤ◌, ◌≤ℤ◌, List}
use Rattle.std.specs.Int.{int_min, int_max}
use Rattle.std.specs.List.{All, Any}
use Rattle.beam_values.specs.Intervals.{Interval}

-- two windows have an instant in common: `[0, 10)` and `[9, 19)` do
abbrev pub Overlaps : Interval → Interval → Type 0
Overlaps a b = (a.start <ℤ b.end) × (b.start <ℤ a.end)

-- windows that only touch don't overlap
abbrev pub IsApart : Interval → Interval → Type 0
IsApart a b = (a.end ≤ℤ b.start) ⊎ (b.end ≤ℤ a.start)

abbrev pub LiesIn : Interval → Interval → Type 0
LiesIn inner outer = (outer.start ≤ℤ inner.start) × (inner.end ≤ℤ outer.end)

-- the least window in which two lie: of `[0, 10)` and `[9, 19)` it is `[0, 19)`
abbrev pub hull : Interval → Interval → Interval
hull a b = record { start = int_min a.start b.start; end = int_max a.end b.end }

-- a point strictly inside a window
abbrev pub IsInside : Interval → ℤ → Type 0
IsInside span x = (span.start <ℤ x) × (x <ℤ span.end)

-- it holds some time
abbrev pub IsNonEmpty : Interval → Type 0
IsNonEmpty span = span.start <ℤ span.end

-- One of the windows into which a set of windows merges: it begins where one of them begins and ends where one ends, no point inside it is a gap between
-- them, and each of them lies in it or is apart from it.
pub record IsSessionOf (S : Interval → Type 0) (session : Interval) : Type 0 where
  pub ordered : session.start <ℤ session.end
  pub begins : (span : Interval) × S span × (span.start ≡ session.start)
  pub ends : (span : Interval) × S span × (span.end ≡ session.end)
  pub joined : (x : ℤ) → IsInside session x → (span : Interval) × S span × IsInside span x
  pub apart : (span : Interval) → S span → LiesIn span session ⊎ IsApart span session

-- The same of the windows in a list. Of `[0, 10)` and `[9, 19)` that is `[0, 19)`; of `[0, 10)` and `[10, 20)` it is each.
pub record IsSession (spans : List Interval) (session : Interval) : Type 0 where
  pub ordered : session.start <ℤ session.end
  pub begins : Any (λ span. span.start ≡ session.start) spans
  pub ends : Any (λ span. span.end ≡ session.end) spans
  pub joined : (x : ℤ) → IsInside session x → Any (λ span. IsInside span x) spans
  pub apart : All (λ span. LiesIn span session ⊎ IsApart span session) spans
