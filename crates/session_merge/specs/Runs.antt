-- How one more window is merged into windows in order: the run of those that it overlaps, and the least window that holds them all.
use Rattle.std.specs.Prelude.{◌≡◌, ◌⊎◌, ◌≤ℤ◌, List, ◌∷◌, ◌++◌, All, Any}
use Rattle.beam_values.specs.Intervals.{Interval}
use Rattle.beam_values.specs.Sessions.{Overlaps, LiesIn, IsNonEmpty}

-- the run of those that a window overlaps, between those that end by its start and those that start at its end or later
pub record IsRun (old : List Interval) (span : Interval) (front run back : List Interval) : Type 0 where
  pub was : old ≡ front ++ (run ++ back)
  pub ended : All (λ w. w.end ≤ℤ span.start) front
  pub meets : All (Overlaps span) run
  pub later : All (λ w. span.end ≤ℤ w.start) back

-- the least window that holds a window and a run: it holds them all, and begins and ends where one of them does
pub record IsHull (span : Interval) (run : List Interval) (hull : Interval) : Type 0 where
  pub holds : LiesIn span hull
  pub inside : All (λ w. LiesIn w hull) run
  pub begins : (hull.start ≡ span.start) ⊎ Any (λ w. w.start ≡ hull.start) run
  pub ends : (hull.end ≡ span.end) ⊎ Any (λ w. w.end ≡ hull.end) run

-- the run gives its place to that window
pub record IsMerge (old : List Interval) (span : Interval) (run : List Interval) (hull : Interval) (new : List Interval) : Type 0 where
  pub some : IsNonEmpty span
  pub front : List Interval
  pub back : List Interval
  pub found : IsRun old span front run back
  pub least : IsHull span run hull
  pub is : new ≡ front ++ hull ∷ back
