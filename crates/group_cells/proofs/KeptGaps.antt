-- The own windows of what Groups of sessions took have the length of the gap, commit by commit.
use Rattle.std.proofs.Common.{◌≡◌, ℕ, Bool, true, false, List, ◌++◌, map, refl, ap, ◌∙◌}
use Rattle.std.specs.Prelude.{not, ◌+ℤ◌}
use Rattle.std.specs.List.{All, filter}
use Rattle.std.specs.Ordering.{int_eq}
use Rattle.std.proofs.lemmas.Bool.{and_parts, not-false}
use Rattle.std.proofs.lemmas.Bool.Decides.{Decides-int_eq}
use Rattle.std.proofs.lemmas.List.Elements.{All-append, All-filter, All-map, All-weaker, filter_passes}
use Rattle.beam_values.specs.Bags.{IsSameBag}
use Rattle.beam_values.specs.Intervals.{Interval}
use Rattle.beam_values.specs.Nodes.{strategy_of}
use Rattle.beam_values.specs.declared.arrival.Arrival.{Arrival}
use Rattle.beam_values.specs.declared.cell.Cell.{Cell}
use Rattle.beam_values.specs.declared.marks.StageMarks.{StageMarks}
use Rattle.beam_values.specs.declared.plan.Plan.{Plan}
use Rattle.beam_values.specs.declared.plan.Strategy.{Strategy}
use Rattle.beam_values.specs.declared.plan.Strategy.TheVariants as strategy
use Rattle.beam_values.proofs.Bags.{bag_count}
use Rattle.beam_model.specs.Panes.{Taken, taken_by}
use Rattle.group_cells.specs.Commits.{HasLength, HasGap, HaveGaps, is_taken, taken_arrival}
use Rattle.group_cells.proofs.Counting.{count_none, none_counted}

is_long : Strategy → Interval → Bool
is_long (strategy.Sessions gap) w = int_eq w.end (w.start +ℤ gap)
is_long _ w = true

long_test : (s : Strategy) (w : Interval) → HasLength s w → is_long s w ≡ true
unfolding is_long
long_test strategy.Global w h = refl
long_test (strategy.Fixed size) w h = refl
long_test (strategy.Sliding size period) w h = refl
long_test (strategy.Sessions gap) w h = (Decides-int_eq w.end (w.start +ℤ gap)).1 h
long_test strategy.Kept w h = refl

long_from : (s : Strategy) (w : Interval) → is_long s w ≡ true → HasLength s w
unfolding is_long
long_from strategy.Global w e = tt
long_from (strategy.Fixed size) w e = tt
long_from (strategy.Sliding size period) w e = tt
long_from (strategy.Sessions gap) w e = (Decides-int_eq w.end (w.start +ℤ gap)).0 e
long_from strategy.Kept w e = tt

-- they stay so after a commit that loses no entry
pub gaps_stay : (plan : Plan) (c : ℕ) (before : List StageMarks) (arrivals : List Arrival) (cells new : List Cell)
    → IsSameBag (taken_by new) (taken_by cells ++ map (taken_arrival c) (filter (is_taken plan before) arrivals))
    → HaveGaps plan (taken_by cells) → All (HasGap plan) arrivals → HaveGaps plan (taken_by new)
gaps_stay plan c before arrivals cells new same old gaps =
    All-weaker (λ t. off t ≡ false) (λ t. HasLength (strategy_of plan t.node) t.element.span) (λ t e. long_from (strategy_of plan t.node) t.element.span (not-false (is_long (strategy_of plan t.node) t.element.span) e)) (taken_by new)
    (none_counted off (taken_by new)
    (bag_count off (taken_by new) all same
    ∙ count_none off all
    (All-weaker (λ t. HasLength (strategy_of plan t.node) t.element.span) (λ t. off t ≡ false) (λ t h. ap not (long_test (strategy_of plan t.node) t.element.span h)) all
    (All-append (λ (t : Taken). HasLength (strategy_of plan t.node) t.element.span) (taken_by cells) (map (taken_arrival c) (filter (is_taken plan before) arrivals)) old
    (All-map (λ (t : Taken). HasLength (strategy_of plan t.node) t.element.span) (taken_arrival c) (filter (is_taken plan before) arrivals)
    (λ k d within.
    All-filter (is_taken plan before) (HasGap plan) arrivals gaps k d within
    (and_parts _ _ (filter_passes (is_taken plan before) arrivals k d within)).0))))))
  where
    off : Taken → Bool
    off = λ t. not (is_long (strategy_of plan t.node) t.element.span)

    all : List Taken
    all = taken_by cells ++ map (taken_arrival c) (filter (is_taken plan before) arrivals)
