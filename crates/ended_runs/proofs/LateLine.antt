-- Two lines in windows of a minute, the second 5001 milliseconds before the first and over the end of its window. A lag of 5001 is sound for them, and one of 5000
-- isn't. Plain grouping brings a pane of each to the Write, so one pane alone is no plain grouping.
use Rattle.std.proofs.Common.{◌≡◌, ◌⊎◌, inl, inr, ℕ, zero, suc, ◌+◌, ◌<◌, ◌&&◌, ℤ, pos, Bool, true, false, cond, min, List, [], ◌∷◌, ◌++◌, map, get_or, ◌≤ℤ◌, refl, sym, ap, ap₂, subst, ◌∙◌, append-nil, arith}
use Rattle.std.specs.Prelude.{codes, bytes_eq}
use Rattle.std.specs.List.{All, filter}
use Rattle.std.specs.List.Sorted.{IsSorted}
use Rattle.std.specs.Ordering.{int_eq}
use Rattle.std.proofs.lemmas.Bool.{false≢true, cases_lt}
use Rattle.std.proofs.lemmas.Bool.Decides.{Decides-int_eq}
use Rattle.std.proofs.lemmas.Int.{ints, clamps}
use Rattle.std.proofs.lemmas.Slice.Eq.{bytes_eq-Decides}
use Rattle.std.proofs.lemmas.List.Elements.{All-nil, All-cons, All-from_recursion}
use Rattle.beam_values.specs.Bags.{IsSameBag}
use Rattle.beam_values.specs.Grouping.{key_of, part_of, is_in_cell, pane_with, IsPlainPane, IsPlainGrouping}
use Rattle.beam_values.specs.Intervals.{Interval}
use Rattle.beam_values.specs.Marks.{mark_of}
use Rattle.beam_values.specs.Nodes.{is_above, strategy_of}
use Rattle.beam_model.specs.Panes.{trigger_of}
use Rattle.beam_values.specs.Orders.{value_cmp}
use Rattle.beam_values.specs.Sessions.{IsNonEmpty}
use Rattle.beam_values.specs.Spelling.{spelling}
use Rattle.beam_values.specs.Storable.{IsStorable}
use Rattle.beam_values.specs.declared.arrival.Arrival.{Arrival}
use Rattle.beam_values.specs.declared.element.Element.{Element}
use Rattle.beam_values.specs.declared.plan.Estimator.TheVariants as estimator
use Rattle.beam_values.specs.declared.plan.Plan.{Plan}
use Rattle.beam_values.specs.declared.value.Value.{Value}
use Rattle.beam_values.specs.declared.value.Value.TheViews.{out-roll-Value}
use Rattle.beam_values.proofs.Bags.{bag_refl, bag_from_same}
use Rattle.beam_values.proofs.Spreads.{spread-empty}
use Rattle.beam_model.specs.Chains.{Output, Arrives, chain}
use Rattle.beam_model.specs.Estimators.{AreSoundAbove, IsSoundItem, emission_at, observed_times, output_times}
use Rattle.beam_model.specs.Flow.{elements_at}
use Rattle.beam_model.specs.Holds.{estimator_of}
use Rattle.beam_model.specs.Plain.{plain_flow, is_met, HasDefaultTriggersAbove, IsGroupAbove, IsGroupedBy, IsPlainRun, IsPlainAt}
use Rattle.beam_model.specs.Plans.{default_trigger}
use Rattle.beam_model.specs.Positions.{Emission, SourceItem, nothing}
use Rattle.beam_model.specs.Spread.{outputs_at, spread_range}
use Rattle.beam_model.specs.Values.{blob}
use Rattle.beam_model.proofs.Positions.{between_nothing, spread_steps}
use Rattle.beam_model.proofs.Runs.{plain_at_agree}
use Rattle.ended_runs.proofs.Pipeline.{pipeline, item_of, key, line, at, no_stateful_above, of_group, one_part_storable, bags_of_a_size}

-- ---- the pipeline and its file

-- the pipeline with this lag
abbrev pub lagging : ℤ → Plan
lagging lag = pipeline (estimator.Lag lag) default_trigger

-- the second line is 5001 milliseconds before the first one, in the minute before
abbrev pub file : List ℕ
file = codes "65000\ta\tx\n59999\ta\ty\n"

abbrev pub lines : SourceItem
lines = item_of file

abbrev pub minute : Interval
minute = record { start = pos 60000; end = pos 120000 }

abbrev pub before : Interval
before = record { start = pos 0; end = pos 60000 }

abbrev pub first : Element
first = line (codes "x") (pos 65000) minute

abbrev pub second : Element
second = line (codes "y") (pos 59999) before

abbrev pub first_pane : Element
first_pane = pane_with key minute (blob (codes "x") ∷ [])

abbrev pub second_pane : Element
second_pane = pane_with key before (blob (codes "y") ∷ [])

module _ (lag : ℤ) where
  first_outputs : outputs_at (lagging lag) lines 0 ≡ Arrives (at 3 first) ∷ []
  first_outputs = simp out-roll-Value refl

  second_outputs : outputs_at (lagging lag) lines 10 ≡ Arrives (at 3 second) ∷ []
  second_outputs = simp out-roll-Value refl

  pub spread_first : spread_range (lagging lag) lines 0 1 ≡ Arrives (at 3 first) ∷ []
  spread_first =
      spread_steps (lagging lag) lines 0 1 (omega arith)
      ∙ ap₂ (λ (now later : List Output). now ++ later) first_outputs (spread-empty (outputs_at (lagging lag) lines) 10 1 (omega arith))

  spread_last : spread_range (lagging lag) lines 10 20 ≡ Arrives (at 3 second) ∷ []
  spread_last =
      spread_steps (lagging lag) lines 10 20 (omega arith)
      ∙ ap₂ (λ (now later : List Output). now ++ later) second_outputs (spread-empty (outputs_at (lagging lag) lines) 20 20 (omega arith))

  pub spread_second : spread_range (lagging lag) lines 1 20 ≡ Arrives (at 3 second) ∷ []
  spread_second =
      spread_steps (lagging lag) lines 1 20 (omega arith) ∙ spread_last

  spread_whole : spread_range (lagging lag) lines 0 20 ≡ Arrives (at 3 first) ∷ Arrives (at 3 second) ∷ []
  spread_whole =
      spread_steps (lagging lag) lines 0 20 (omega arith)
      ∙ ap₂ (λ (now later : List Output). now ++ later) first_outputs spread_last

  -- ---- what plain grouping brings to the Write: both panes, whatever the lag

  abbrev arrivals : List Arrival
  arrivals = at 3 first ∷ at 3 second ∷ at 4 second_pane ∷ at 4 first_pane ∷ []

  abbrev panes : List Arrival
  panes = at 3 second_pane ∷ at 3 first_pane ∷ []

  clean : IsSameBag (filter (is_met (lagging lag) 4) (plain_flow (lagging lag) (lines ∷ []) panes)) (map Arrives arrivals)
  clean =
      bag_from_same (filter (is_met (lagging lag) 4) (plain_flow (lagging lag) (lines ∷ []) panes)) (map Arrives arrivals)
      (ap (λ (outputs : List Output). filter (is_met (lagging lag) 4) (outputs ++ (chain (lagging lag) 3 second_pane ++ (chain (lagging lag) 3 first_pane ++ []))))
      (append-nil (spread_range (lagging lag) lines 0 20) ∙ spread_whole))

one_sorted : (v : Value) → IsSorted value_cmp (v ∷ [])
one_sorted v j d from to = absurd (omega arith)

pub same_key : bytes_eq (spelling key) (spelling key) ≡ true
same_key = (bytes_eq-Decides (spelling key) (spelling key)).1 refl

in_minute : map part_of (filter (is_in_cell (key_of first_pane) minute) (first ∷ second ∷ [])) ≡ blob (codes "x") ∷ []
in_minute = simp (out-roll-Value, same_key) refl

in_before : map part_of (filter (is_in_cell (key_of second_pane) before) (first ∷ second ∷ [])) ≡ blob (codes "y") ∷ []
in_before = simp (out-roll-Value, same_key) refl

first_plain : IsPlainPane (first ∷ second ∷ []) first_pane
first_plain = record {
  parts = blob (codes "x") ∷ [];
  holds = simp out-roll-Value refl;
  ascending = one_sorted (blob (codes "x"));
  all = bag_from_same (blob (codes "x") ∷ []) (map part_of (filter (is_in_cell (key_of first_pane) minute) (first ∷ second ∷ []))) (sym in_minute);
}

second_plain : IsPlainPane (first ∷ second ∷ []) second_pane
second_plain = record {
  parts = blob (codes "y") ∷ [];
  holds = simp out-roll-Value refl;
  ascending = one_sorted (blob (codes "y"));
  all = bag_from_same (blob (codes "y") ∷ []) (map part_of (filter (is_in_cell (key_of second_pane) before) (first ∷ second ∷ []))) (sym in_before);
}

other_start : (s : ℤ) → int_eq (pos 0) s ≡ true → int_eq (pos 60000) s ≡ false
other_start s same = subst (λ (t : ℤ). int_eq (pos 60000) t ≡ false) ((Decides-int_eq (pos 0) s).0 same) refl

grouping : IsPlainGrouping (first ∷ second ∷ []) (second_pane ∷ first_pane ∷ [])
grouping = record {
  each = All-cons (IsPlainPane (first ∷ second ∷ [])) second_pane (first_pane ∷ []) second_plain
      (All-cons (IsPlainPane (first ∷ second ∷ [])) first_pane [] first_plain (All-nil (IsPlainPane (first ∷ second ∷ []))));
  once = λ k span. simp out-roll-Value
      (by_tests (bytes_eq (spelling key) (spelling k)) (int_eq (pos 0) span.start) (int_eq (pos 60000) span.end) (int_eq (pos 60000) span.start) (int_eq (pos 120000) span.end)
      (other_start span.start));
}
  where
    by_tests : (own a b c d : Bool) → (a ≡ true → c ≡ false)
        → (0 + cond {A = ℕ} (own && a && b) 1 0) + cond {A = ℕ} (own && c && d) 1 0 ≡ min 1 ((0 + cond {A = ℕ} (own && c && d) 1 0) + cond {A = ℕ} (own && a && b) 1 0)
    by_tests false a b c d apart = refl
    by_tests true false b false d apart = refl
    by_tests true false b true false apart = refl
    by_tests true false b true true apart = refl
    by_tests true true b true d apart = absurd (false≢true (sym (apart refl)))
    by_tests true true false false d apart = refl
    by_tests true true true false d apart = refl

some_minute : IsNonEmpty minute
some_minute = omega (arith, ints)

some_before : IsNonEmpty before
some_before = omega (arith, ints)

module _ (lag : ℤ) where
  plain_run : IsPlainRun (lagging lag) (lines ∷ []) 4 (arrivals lag) (panes lag)
  plain_run = record {
    ends_here = refl;
    stateless = no_stateful_above (estimator.Lag lag) default_trigger;
    clean = clean lag;
    from_groups = All-from_recursion (λ pane. IsGroupAbove (lagging lag) 4 pane.node) (panes lag) ((refl, refl), ((refl, refl), tt));
    grouped = λ n above.
        of_group (estimator.Lag lag) default_trigger (λ g. IsGroupedBy (strategy_of (lagging lag) g) (elements_at g (arrivals lag)) (elements_at g (panes lag))) grouping n above.0;
    storable = All-from_recursion (λ pane. IsStorable pane.element.value) (panes lag) (one_part_storable (codes "y"), (one_part_storable (codes "x"), tt));
    held = All-from_recursion (λ arrival. IsNonEmpty arrival.element.span) (arrivals lag) (some_minute, (some_before, (some_before, (some_minute, tt))));
  }

  -- plain grouping brings a pane of each line
  pub both_panes_are_plain : IsPlainAt (lagging lag) (lines ∷ []) 4 (second_pane ∷ first_pane ∷ [])
  both_panes_are_plain = (arrivals lag, panes lag, plain_run, bag_refl (second_pane ∷ first_pane ∷ []))

  pub one_pane_is_not_plain : IsPlainAt (lagging lag) (lines ∷ []) 4 (first_pane ∷ []) → ⊥
  one_pane_is_not_plain h =
      let same : ◌≡◌ {A = ℕ} 1 2 =
      bags_of_a_size (first_pane ∷ []) (second_pane ∷ first_pane ∷ [])
      (plain_at_agree (lagging lag) (lines ∷ []) 4 (first_pane ∷ []) (second_pane ∷ first_pane ∷ []) h both_panes_are_plain) in
      absurd (omega arith)

-- ---- which lag is sound

-- but for the two lines nothing is emitted
emitted_at : (p : ℕ) → p < 20 → (p ≡ 0) ⊎ (p ≡ 10) ⊎ (emission_at lines p ≡ nothing)
emitted_at zero inside = inl refl
emitted_at (suc q) inside =
    elim (cases_lt (suc q) 10) [
      | inl low ↦ inr (inr (between_nothing lines.work lines.args lines.file 0 (suc q) (omega arith) low))
      | inr high ↦
          elim (cases_lt 10 (suc q)) [
            | inl above ↦ inr (inr (between_nothing lines.work lines.args lines.file 10 (suc q) above inside))
            | inr same ↦ inr (inl (omega arith))
          ]
    ]

abbrev IsAtMark : ℤ → ℤ → ℤ → Type 0
IsAtMark lag seen time = mark_of (estimator.Lag lag) seen ≤ℤ time

abbrev IsFar : ℤ → ℕ → ℕ → Type 0
IsFar lag p q = All (λ seen. All (IsAtMark lag seen) (output_times (emission_at lines q))) (observed_times (estimator.Lag lag) (emission_at lines p))

nothing_after : (lag : ℤ) (p q : ℕ) → emission_at lines q ≡ nothing → IsFar lag p q
nothing_after lag p q none j d inside =
    let seen = get_or (observed_times (estimator.Lag lag) (emission_at lines p)) j d in
    subst (λ (e : Emission). All (IsAtMark lag seen) (output_times e)) (sym none) (All-nil (IsAtMark lag seen))

nothing_before : (lag : ℤ) (p q : ℕ) → emission_at lines p ≡ nothing → IsFar lag p q
nothing_before lag p q none =
    let P : ℤ → Type 0 = λ seen. All (IsAtMark lag seen) (output_times (emission_at lines q)) in
    subst (λ (e : Emission). All P (observed_times (estimator.Lag lag) e)) (sym none) (All-nil P)

both_lines : IsFar (pos 5001) 0 10
both_lines =
    let P : ℤ → Type 0 = λ seen. All (IsAtMark (pos 5001) seen) (pos 59999 ∷ []) in
    All-cons P (pos 65000) [] (All-cons (IsAtMark (pos 5001) (pos 65000)) (pos 59999) [] (omega (arith, ints, clamps)) (All-nil (IsAtMark (pos 5001) (pos 65000)))) (All-nil P)

just_enough : IsSoundItem (estimator.Lag (pos 5001)) lines
just_enough p q below inside =
    elim (emitted_at q inside) [
      | inl first_line ↦ absurd (omega arith)
      | inr (inr none) ↦ nothing_after (pos 5001) p q none
      | inr (inl second_line) ↦
          elim (emitted_at p (omega arith)) [
            | inl first_line ↦ subst (λ (n : ℕ). IsFar (pos 5001) n q) (sym first_line) (subst (λ (n : ℕ). IsFar (pos 5001) 0 n) (sym second_line) both_lines)
            | inr (inl again) ↦ absurd (omega arith)
            | inr (inr none) ↦ nothing_before (pos 5001) p q none
          ]
    ]

pub a_lag_of_5001_is_sound : AreSoundAbove (lagging (pos 5001)) (lines ∷ []) 4
a_lag_of_5001_is_sound =
    let P : SourceItem → Type 0 = λ item. is_above (lagging (pos 5001)) item.node 4 ≡ true → IsSoundItem (estimator_of (lagging (pos 5001)) item.node) item in
    All-cons P lines [] (λ above. just_enough) (All-nil P)

-- at 60000 the second line would have to be after it
pub a_lag_of_5000_is_not_sound : AreSoundAbove (lagging (pos 5000)) (lines ∷ []) 4 → ⊥
a_lag_of_5000_is_not_sound h =
    let far : IsFar (pos 5000) 0 10 = h 0 lines (omega arith) refl 0 10 (omega arith) (omega arith) in
    let late : mark_of (estimator.Lag (pos 5000)) (pos 65000) ≤ℤ pos 59999 = far 0 (pos 0) (omega arith) 0 (pos 0) (omega arith) in
    absurd (omega (arith, ints, clamps))

pub triggers_are_default : (lag : ℤ) → HasDefaultTriggersAbove (lagging lag) 4
triggers_are_default lag n above = of_group (estimator.Lag lag) default_trigger (λ g. trigger_of (lagging lag) g ≡ default_trigger) refl n above.0
