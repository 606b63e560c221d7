-- Two lines in one window, and a Group that fires early. With no estimator nothing can be late. Plain grouping brings one pane of both to the Write, so a pane of each
-- is no plain grouping.
use Rattle.std.proofs.Common.{◌≡◌, ℕ, zero, suc, ◌+◌, ◌&&◌, pos, Bool, true, false, cond, min, List, [], ◌∷◌, ◌++◌, map, Some, refl, sym, ap, ap₂, ◌∙◌, append-nil, arith}
use Rattle.std.specs.Prelude.{codes, bytes_eq, is_none}
use Rattle.std.specs.List.{filter}
use Rattle.std.specs.List.Sorted.{IsSorted}
use Rattle.std.specs.Ordering.{int_eq, is_lt}
use Rattle.std.proofs.lemmas.Bool.{false≢true}
use Rattle.std.proofs.lemmas.Int.{ints}
use Rattle.std.proofs.lemmas.List.Elements.{All-nil, All-cons, All-from_recursion}
use Rattle.std.proofs.lemmas.Slice.Eq.{bytes_eq-Decides}
use Rattle.beam_values.specs.Bags.{IsSameBag}
use Rattle.beam_values.specs.Grouping.{key_of, part_of, is_in_cell, pane_as, pane_with, IsPlainPane, IsPlainGrouping}
use Rattle.beam_values.specs.Intervals.{Interval}
use Rattle.beam_values.specs.Nodes.{is_above, strategy_of}
use Rattle.beam_values.specs.Orders.{value_cmp}
use Rattle.beam_values.specs.Sessions.{IsNonEmpty}
use Rattle.beam_values.specs.Spelling.{groups, spelling}
use Rattle.beam_values.specs.Storable.{IsStorable}
use Rattle.beam_values.specs.declared.arrival.Arrival.{Arrival}
use Rattle.beam_values.specs.declared.element.Element.{Element}
use Rattle.beam_values.specs.declared.element.Timing.{Timing}
use Rattle.beam_values.specs.declared.element.Timing.TheVariants.{Early, OnTime}
use Rattle.beam_values.specs.declared.plan.Estimator.TheVariants as estimator
use Rattle.beam_values.specs.declared.plan.Mode.TheVariants.{Discarding}
use Rattle.beam_values.specs.declared.plan.Plan.{Plan}
use Rattle.beam_values.specs.declared.plan.Trigger.{Trigger}
use Rattle.beam_values.specs.declared.value.Value.{Value}
use Rattle.beam_values.specs.declared.value.Value.TheFolds.{fold-roll-Value}
use Rattle.beam_values.specs.declared.value.Value.TheViews.{out-roll-Value}
use Rattle.beam_values.proofs.Bags.{bag_refl, bag_from_same}
use Rattle.beam_values.proofs.Spreads.{spread-empty}
use Rattle.beam_model.specs.Chains.{Output, Arrives, chain}
use Rattle.beam_model.specs.Estimators.{AreSoundAbove, IsSoundItem}
use Rattle.beam_model.specs.Flow.{elements_at}
use Rattle.beam_model.specs.Holds.{estimator_of}
use Rattle.beam_model.specs.Plain.{plain_flow, is_met, HasDefaultTriggersAbove, IsGroupAbove, IsGroupedBy, IsPlainRun, IsPlainAt}
use Rattle.beam_model.specs.Plans.{default_trigger}
use Rattle.beam_model.specs.Positions.{SourceItem}
use Rattle.beam_model.specs.Spread.{outputs_at, spread_range}
use Rattle.beam_model.specs.Values.{blob}
use Rattle.beam_model.proofs.Positions.{spread_steps}
use Rattle.beam_model.proofs.Runs.{plain_at_agree}
use Rattle.ended_runs.proofs.Pipeline.{pipeline, item_of, key, line, at, no_stateful_above, of_group, two_parts_storable, bags_of_a_size}

-- ---- the pipeline and its file

abbrev pub early_trigger : Trigger
early_trigger = record { early = Some 1; late = 1; lateness = pos 0; mode = Discarding; early_bars = []; late_bars = [] }

-- with no estimator, so nothing can be late
abbrev pub hasty : Plan
hasty = pipeline estimator.None early_trigger

abbrev pub file : List ℕ
file = codes "1000\ta\tx\n2000\ta\ty\n"

abbrev pub lines : SourceItem
lines = item_of file

abbrev pub minute : Interval
minute = record { start = pos 0; end = pos 60000 }

abbrev pub first : Element
first = line (codes "x") (pos 1000) minute

abbrev pub second : Element
second = line (codes "y") (pos 2000) minute

abbrev pub part_pane : Timing → ℕ → List ℕ → Element
part_pane timing index text = pane_as (record { timing = timing; index = index }) key minute (blob text ∷ [])

abbrev pub first_pane : Element
first_pane = part_pane Early 0 (codes "x")

abbrev pub second_pane : Element
second_pane = part_pane OnTime 1 (codes "y")

abbrev pub both : Element
both = pane_with key minute (blob (codes "x") ∷ blob (codes "y") ∷ [])

first_outputs : outputs_at hasty lines 0 ≡ Arrives (at 3 first) ∷ []
first_outputs = simp out-roll-Value refl

second_outputs : outputs_at hasty lines 9 ≡ Arrives (at 3 second) ∷ []
second_outputs = simp out-roll-Value refl

pub spread_first : spread_range hasty lines 0 1 ≡ Arrives (at 3 first) ∷ []
spread_first =
    spread_steps hasty lines 0 1 (omega arith)
    ∙ ap₂ (λ (now later : List Output). now ++ later) first_outputs (spread-empty (outputs_at hasty lines) 9 1 (omega arith))

spread_last : spread_range hasty lines 9 18 ≡ Arrives (at 3 second) ∷ []
spread_last =
    spread_steps hasty lines 9 18 (omega arith)
    ∙ ap₂ (λ (now later : List Output). now ++ later) second_outputs (spread-empty (outputs_at hasty lines) 18 18 (omega arith))

pub spread_second : spread_range hasty lines 1 18 ≡ Arrives (at 3 second) ∷ []
spread_second = spread_steps hasty lines 1 18 (omega arith) ∙ spread_last

spread_whole : spread_range hasty lines 0 18 ≡ Arrives (at 3 first) ∷ Arrives (at 3 second) ∷ []
spread_whole =
    spread_steps hasty lines 0 18 (omega arith)
    ∙ ap₂ (λ (now later : List Output). now ++ later) first_outputs spread_last

-- ---- what plain grouping brings to the Write: one pane

abbrev arrivals : List Arrival
arrivals = at 3 first ∷ at 3 second ∷ at 4 both ∷ []

abbrev panes : List Arrival
panes = at 3 both ∷ []

clean : IsSameBag (filter (is_met hasty 4) (plain_flow hasty (lines ∷ []) panes)) (map Arrives arrivals)
clean =
    bag_from_same (filter (is_met hasty 4) (plain_flow hasty (lines ∷ []) panes)) (map Arrives arrivals)
    (ap (λ (outputs : List Output). filter (is_met hasty 4) (outputs ++ (chain hasty 3 both ++ []))) (append-nil (spread_range hasty lines 0 18) ∙ spread_whole))

pub same_key : bytes_eq (spelling key) (spelling key) ≡ true
same_key = (bytes_eq-Decides (spelling key) (spelling key)).1 refl

not_descending : is_lt (value_cmp (blob (codes "y")) (blob (codes "x"))) ≡ false
unfolding groups
not_descending = simp fold-roll-Value refl

sorted_pair : (v w : Value) → is_lt (value_cmp w v) ≡ false → IsSorted value_cmp (v ∷ w ∷ [])
sorted_pair v w up zero d from within = up
sorted_pair v w up (suc k) d from within = absurd (omega arith)

in_minute : map part_of (filter (is_in_cell (key_of both) minute) (first ∷ second ∷ [])) ≡ blob (codes "x") ∷ blob (codes "y") ∷ []
in_minute = simp (out-roll-Value, same_key) refl

plain_pane : IsPlainPane (first ∷ second ∷ []) both
plain_pane = record {
  parts = blob (codes "x") ∷ blob (codes "y") ∷ [];
  holds = simp out-roll-Value refl;
  ascending = sorted_pair (blob (codes "x")) (blob (codes "y")) not_descending;
  all = bag_from_same (blob (codes "x") ∷ blob (codes "y") ∷ []) (map part_of (filter (is_in_cell (key_of both) minute) (first ∷ second ∷ []))) (sym in_minute);
}

grouping : IsPlainGrouping (first ∷ second ∷ []) (both ∷ [])
grouping = record {
  each = All-cons (IsPlainPane (first ∷ second ∷ [])) both [] plain_pane (All-nil (IsPlainPane (first ∷ second ∷ [])));
  once = λ k span. simp out-roll-Value (by_test (bytes_eq (spelling key) (spelling k) && int_eq (pos 0) span.start && int_eq (pos 60000) span.end));
}
  where
    by_test : (own : Bool) → 0 + cond {A = ℕ} own 1 0 ≡ min 1 ((0 + cond {A = ℕ} own 1 0) + cond {A = ℕ} own 1 0)
    by_test true = refl
    by_test false = refl

some_time : IsNonEmpty minute
some_time = omega (arith, ints)

plain_run : IsPlainRun hasty (lines ∷ []) 4 arrivals panes
plain_run = record {
  ends_here = refl;
  stateless = no_stateful_above estimator.None early_trigger;
  clean = clean;
  from_groups = All-from_recursion (λ pane. IsGroupAbove hasty 4 pane.node) panes ((refl, refl), tt);
  grouped = λ n above. of_group estimator.None early_trigger (λ g. IsGroupedBy (strategy_of hasty g) (elements_at g arrivals) (elements_at g panes)) grouping n above.0;
  storable = All-from_recursion (λ pane. IsStorable pane.element.value) panes (two_parts_storable (codes "x") (codes "y"), tt);
  held = All-from_recursion (λ arrival. IsNonEmpty arrival.element.span) arrivals (some_time, (some_time, (some_time, tt)));
}

pub one_pane_is_plain : IsPlainAt hasty (lines ∷ []) 4 (both ∷ [])
one_pane_is_plain = (arrivals, panes, plain_run, bag_refl (both ∷ []))

pub two_panes_are_not_plain : IsPlainAt hasty (lines ∷ []) 4 (first_pane ∷ second_pane ∷ []) → ⊥
two_panes_are_not_plain h =
    let same : ◌≡◌ {A = ℕ} 2 1 =
    bags_of_a_size (first_pane ∷ second_pane ∷ []) (both ∷ [])
    (plain_at_agree hasty (lines ∷ []) 4 (first_pane ∷ second_pane ∷ []) (both ∷ []) h one_pane_is_plain) in
    absurd (omega arith)

-- ---- the premises

pub no_estimator_is_sound : AreSoundAbove hasty (lines ∷ []) 4
no_estimator_is_sound =
    let P : SourceItem → Type 0 = λ item. is_above hasty item.node 4 ≡ true → IsSoundItem (estimator_of hasty item.node) item in
    All-cons P lines [] (λ above p q below inside. All-nil _) (All-nil P)

pub the_trigger_is_not_default : HasDefaultTriggersAbove hasty 4 → ⊥
the_trigger_is_not_default h =
    let same : early_trigger ≡ default_trigger = h 3 (refl, refl) in
    false≢true (ap (λ (t : Trigger). is_none t.early) same)
