-- Windows of one key that don't overlap, and one more window merged into them (Beam Programming Guide, Session windows; The Dataflow Model, window
-- merging).
use Rattle.std.specs.Prelude.{◌≡◌, ◌↔◌, ◌≤ℤ◌, not, List, ◌∷◌, ◌++◌, filter, All, AllPairs, Any, Contains}
use Rattle.beam_values.specs.Intervals.{Interval}
use Rattle.beam_values.specs.Sessions.{LiesIn, IsNonEmpty, IsSessionOf}
use Rattle.beam_values.specs.Spans.{lies_in}

-- none of them is empty, and each ends before or where the next one starts
pub record AreApart (spans : List Interval) : Type 0 where
  pub nonempty : All IsNonEmpty spans
  pub ascending : AllPairs (λ a b. a.end ≤ℤ b.start) spans

-- A run of windows gives its place to the one window into which they merge: what stood before it and behind it stays. Inserting `[9, 19)` into
-- `[0, 10)`, `[18, 28)` and `[30, 40)` takes out the first two for `[0, 28)`, and leaves the third.
pub record GivesWay (old absorbed : List Interval) (merged : Interval) (new : List Interval) : Type 0 where
  pub front : List Interval
  pub back : List Interval
  pub was : old ≡ front ++ (absorbed ++ back)
  pub is : new ≡ front ++ merged ∷ back
  pub before : All (λ w. w.end ≤ℤ merged.start) front
  pub inside : All (λ w. LiesIn w merged) absorbed
  pub behind : All (λ w. merged.end ≤ℤ w.start) back

-- one window is taken out, and all others stay in their order
pub record IsTakenOut (old : List Interval) (span : Interval) (new : List Interval) : Type 0 where
  pub front : List Interval
  pub back : List Interval
  pub was : old ≡ front ++ span ∷ back
  pub is : new ≡ front ++ back

-- the listed windows are exactly the sessions of a set of windows, and each window of the set lies in one of them
pub record AreSessionsOf (S : Interval → Type 0) (listed : List Interval) : Type 0 where
  pub exact : (w : Interval) → Contains listed w ↔ IsSessionOf S w
  pub cover : (span : Interval) → S span → Any (LiesIn span) listed

-- those of some windows that don't lie in another
abbrev pub those_outside : Interval → List Interval → List Interval
those_outside outer spans = filter (λ span. not (lies_in span outer)) spans
