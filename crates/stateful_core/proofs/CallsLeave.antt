-- What calls leave: the timers that their function sets, and as many states as there were.
use Rattle.std.proofs.Common.{◌≡◌, ℕ, ℤ, Bool, true, false, cond, List, [], ◌∷◌, length, Option, Some, refl, subst, ◌∙◌}
use Rattle.std.specs.Prelude.{slice_set, ◌==◌, None}
use Rattle.std.specs.Option.{option_map, option_and_then}
use Rattle.std.proofs.lemmas.Bool.{cond_both}
use Rattle.std.proofs.lemmas.List.{length-set}
use Rattle.std.proofs.lemmas.Option.{same_Some, option_and_then_some}
use Rattle.beam_values.specs.Grouping.{part_of}
use Rattle.beam_values.specs.Intervals.{Interval}
use Rattle.beam_values.specs.States.{KeptState}
use Rattle.beam_values.specs.Windows.{or_zero}
use Rattle.beam_values.specs.declared.element.Element.{Element}
use Rattle.beam_values.specs.declared.log.LogInput.{LogInput}
use Rattle.beam_values.specs.declared.log.LogInput.TheVariants.{Arrived, Fired}
use Rattle.beam_values.specs.declared.plan.Args.{Args}
use Rattle.beam_values.specs.declared.plan.Node.{Node}
use Rattle.beam_values.specs.declared.plan.NodeKind.{NodeKind}
use Rattle.beam_values.specs.declared.plan.NodeKind.TheVariants.{Stateful}
use Rattle.beam_values.specs.declared.plan.StateKind.{StateKind}
use Rattle.beam_values.specs.declared.plan.StateKind.TheVariants.{Dedupe, RunningSum, BatchUntil, LatestThenEmit}
use Rattle.beam_values.specs.declared.value.Value.{Value}
use Rattle.beam_model.specs.Functions.{number_arg, in_word}
use Rattle.beam_model.specs.Steps.{Stepped, steps, bag, stepped, dedupe, sum_so_far, batch_until, collected, emptied, latest_then_emit, with_latest, is_latest, on_element, on_first_timer, holds_value, cleared_bag}
use Rattle.beam_model.specs.Values.{as_int}
use Rattle.stateful_core.specs.Facts.{Folded, noted, folded, folded_at, folded_in}
use Rattle.stateful_core.specs.Timers.{AreTimersOf, AreTimersAt, AreTimersIn}
use Rattle.stateful_core.proofs.SetTimers.{map_some, steps_timers}

-- ---- one call leaves as many states

abbrev many : KeptState → ℕ
many kept = length kept.cells

emptied_many : (kept : KeptState) → many (emptied kept) ≡ many kept
emptied_many kept = length-set kept.cells 0 _

collected_many : (e : Element) (kept : KeptState) → many (collected e kept) ≡ many kept
collected_many e kept = length-set kept.cells 0 _

latest_many : (e : Element) (kept : KeptState) → many (with_latest e kept) ≡ many kept
latest_many e kept =
    cond_both (is_latest kept e.time) _ _ (λ (k : KeptState). many k ≡ many kept)
    (λ _. length-set (slice_set kept.cells 0 _) 1 _ ∙ length-set kept.cells 0 _) (λ _. refl)

cleared_many : (kept : KeptState) (values : List Value) → many (cleared_bag kept values) ≡ many kept
cleared_many kept [] = refl
cleared_many kept (v ∷ vs) = emptied_many kept

abbrev HasMany : KeptState → Stepped → Type 0
HasMany kept s = many s.kept ≡ many kept

element_many : (kind : StateKind) (args : Args) (key : Value) (e : Element) (kept : KeptState) (s : Stepped) → on_element kind args key e kept ≡ Some s → HasMany kept s
element_many Dedupe args key e kept s is =
    subst (HasMany kept) (same_Some (dedupe key e kept) s is)
    (cond_both (holds_value (bag kept) (part_of e)) _ _ (HasMany kept) (λ _. refl) (λ _. length-set kept.cells 0 _))
element_many RunningSum args key e kept s is =
    map_some _ (option_and_then (λ n. in_word (sum_so_far kept n)) (as_int (part_of e))) s is (λ sum at made. subst (HasMany kept) made (length-set kept.cells 0 _))
element_many BatchUntil args key e kept s is =
    subst (HasMany kept) (same_Some (batch_until (or_zero (number_arg args)) key e kept) s is)
    (cond_both (length (bag (collected e kept)) == or_zero (number_arg args)) _ _ (HasMany kept)
    (λ _. emptied_many (collected e kept) ∙ collected_many e kept) (λ _. collected_many e kept))
element_many LatestThenEmit args key e kept s is =
    subst (HasMany kept) (same_Some (latest_then_emit (number_arg args) e kept) s is) (latest_many e kept)

timer_many : (kind : StateKind) (key : Value) (span : Interval) (time : ℤ) (kept : KeptState) → HasMany kept (on_first_timer kind key span time kept)
timer_many Dedupe key span time kept = refl
timer_many RunningSum key span time kept = refl
timer_many BatchUntil key span time kept = cleared_many kept (bag kept)
timer_many LatestThenEmit key span time kept = length-set (emptied kept).cells 1 _ ∙ emptied_many kept

fired_many : (kind : StateKind) (key : Value) (span : Interval) (time : ℤ) (kept : KeptState) (s : Stepped) (b : Bool)
    → cond b (Some (on_first_timer kind key span time kept)) (Some (stepped kept [])) ≡ Some s → HasMany kept s
fired_many kind key span time kept s true e = subst (HasMany kept) (same_Some (on_first_timer kind key span time kept) s e) (timer_many kind key span time kept)
fired_many kind key span time kept s false e = subst (HasMany kept) (same_Some (stepped kept []) s e) refl

pub steps_many : (kind : StateKind) (args : Args) (key : Value) (span : Interval) (input : LogInput) (kept : KeptState) (s : Stepped)
    → steps kind args key span input kept ≡ Some s → length s.kept.cells ≡ length kept.cells
steps_many kind args key span (Arrived e) kept s is = element_many kind args key e kept s is
steps_many kind args key span (Fired timer) kept s is = fired_many kind key span timer.time kept s (timer.name == 0) is

-- ---- what each call keeps, a fold keeps

module _ (kind : StateKind) (args : Args) (key : Value) (span : Interval) (c : ℕ) (P : KeptState → Type 0)
    (keeps : (input : LogInput) (kept : KeptState) (s : Stepped) → steps kind args key span input kept ≡ Some s → P kept → P s.kept) where
  folded_keeps : (inputs : List LogInput) (kept : KeptState) (all : Folded) → folded kind args key span c kept inputs ≡ Some all → P kept → P all.kept
  folded_keeps [] kept all e h = subst (λ (r : Folded). P r.kept) (same_Some (record { kept = kept; entries = [] }) all e) h
  folded_keeps (input ∷ inputs) kept all e h =
      option_and_then_some (λ (s : Stepped). option_map (noted c input s.outputs) (folded kind args key span c s.kept inputs)) (steps kind args key span input kept) all e
      (λ s at f. map_some (noted c input s.outputs) (folded kind args key span c s.kept inputs) all f
      (λ rest on is. subst (λ (r : Folded). P r.kept) is (folded_keeps inputs s.kept rest on (keeps input kept s at h))))

pub folded_timers : (kind : StateKind) (args : Args) (key : Value) (span : Interval) (c : ℕ) (inputs : List LogInput) (kept : KeptState) (all : Folded)
    → folded kind args key span c kept inputs ≡ Some all → AreTimersOf kind kept.timers → AreTimersOf kind all.kept.timers
folded_timers kind args key span c = folded_keeps kind args key span c (λ (k : KeptState). AreTimersOf kind k.timers) (steps_timers kind args key span)

pub folded_many : (kind : StateKind) (args : Args) (key : Value) (span : Interval) (c n : ℕ) (inputs : List LogInput) (kept : KeptState) (all : Folded)
    → folded kind args key span c kept inputs ≡ Some all → length kept.cells ≡ n → length all.kept.cells ≡ n
folded_many kind args key span c n =
    folded_keeps kind args key span c (λ (k : KeptState). length k.cells ≡ n) (λ input kept s at h. steps_many kind args key span input kept s at ∙ h)

-- ---- at the node of a cell

at_left : (kind : NodeKind) (key : Value) (span : Interval) (c : ℕ) (kept : KeptState) (inputs : List LogInput) (all : Folded) → folded_at kind key span c kept inputs ≡ Some all
    → AreTimersAt kind kept.timers → length kept.cells ≡ 8 → AreTimersAt kind all.kept.timers × (length all.kept.cells ≡ 8)
at_left (Stateful work args logged) key span c kept inputs all e timers states =
    (folded_timers work args key span c inputs kept all e timers, folded_many work args key span c 8 inputs kept all e states)
at_left _ key span c kept inputs all e timers states = absurd timers

pub in_left : (found : Option Node) (key : Value) (span : Interval) (c : ℕ) (kept : KeptState) (inputs : List LogInput) (all : Folded) → folded_in found key span c kept inputs ≡ Some all
    → AreTimersIn found kept.timers → length kept.cells ≡ 8 → AreTimersIn found all.kept.timers × (length all.kept.cells ≡ 8)
in_left (Some node) key span c kept inputs all e timers states = at_left node.kind key span c kept inputs all e timers states
in_left None key span c kept inputs all e timers states = absurd timers
