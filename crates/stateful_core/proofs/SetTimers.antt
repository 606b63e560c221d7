-- The stateful functions set timer 0 alone, and its delivery clears it.
use Rattle.std.proofs.Common.{◌≡◌, ℕ, ℤ, ◌≤ℤ◌, Bool, true, false, cond, List, [], ◌∷◌, length, Option, Some, None, refl, ap, subst, arith}
use Rattle.std.specs.Prelude.{slice_set, ◌==◌, unwrap_or}
use Rattle.std.specs.Option.{option_map, option_and_then}
use Rattle.std.proofs.lemmas.Bool.{cond_both}
use Rattle.std.proofs.lemmas.Int.{ints, clamps}
use Rattle.std.proofs.lemmas.Option.{same_Some}
use Rattle.beam_values.specs.Grouping.{last_time, part_of}
use Rattle.beam_values.specs.Intervals.{Interval}
use Rattle.beam_values.specs.States.{KeptState, fresh_state, cell_of, number_in}
use Rattle.beam_values.specs.Times.{greatest_time}
use Rattle.beam_values.specs.Windows.{or_zero}
use Rattle.beam_values.specs.declared.element.Element.{Element}
use Rattle.beam_values.specs.declared.log.LogInput.{LogInput}
use Rattle.beam_values.specs.declared.log.LogInput.TheVariants.{Arrived, Fired}
use Rattle.beam_values.specs.declared.log.KeyLog.{KeyLog}
use Rattle.beam_values.specs.declared.log.LogEntry.{LogEntry}
use Rattle.beam_values.specs.declared.marks.CommitMarks.{CommitMarks}
use Rattle.beam_values.specs.declared.plan.Args.{Args}
use Rattle.beam_values.specs.declared.plan.StateKind.{StateKind}
use Rattle.beam_values.specs.declared.plan.StateKind.TheVariants.{Dedupe, RunningSum, BatchUntil, LatestThenEmit}
use Rattle.beam_values.specs.declared.value.Value.{Value}
use Rattle.beam_model.specs.Functions.{number_arg, later_by, in_word}
use Rattle.beam_model.specs.Logs.{Leads}
use Rattle.beam_model.specs.Steps.{Stepped, steps, bag, stepped, dedupe, sum_so_far, batch_until, collected, latest_then_emit, with_latest, is_latest, on_element, on_first_timer, holds_value, cleared_bag}
use Rattle.beam_model.specs.Values.{as_int}
use Rattle.stateful_core.specs.Timers.{IsAllowed, AreTimersOf}

pub map_some : {A B P : Type 0} (f : A → B) (o : Option A) (y : B) → option_map f o ≡ Some y → ((x : A) → o ≡ Some x → f x ≡ y → P) → P
map_some f None y e k = absurd (cc)
map_some f (Some x) y e k = k x refl (cc)

latest_bound : (span : Interval) → last_time span ≤ℤ greatest_time
latest_bound span = grind (arith, ints)

later_bound : (delay time : ℤ) → later_by delay time ≤ℤ greatest_time
later_bound delay time = omega (arith, ints, clamps)

set_first : (kind : StateKind) (timers : List (Option ℤ)) (time : Option ℤ) → AreTimersOf kind timers → IsAllowed kind time → AreTimersOf kind (slice_set timers 0 time)
set_first kind timers time h allowed = record { first = time; is = ap (λ (l : List (Option ℤ)). slice_set l 0 time) h.is; allowed = allowed }

-- what a call leaves
abbrev Leaves : StateKind → Stepped → Type 0
Leaves kind s = AreTimersOf kind s.kept.timers

element_timers : (kind : StateKind) (args : Args) (key : Value) (e : Element) (kept : KeptState) (s : Stepped)
    → on_element kind args key e kept ≡ Some s → AreTimersOf kind kept.timers → Leaves kind s
element_timers Dedupe args key e kept s is h =
    subst (Leaves Dedupe) (same_Some (dedupe key e kept) s is) (cond_both (holds_value (bag kept) (part_of e)) _ _ (Leaves Dedupe) (λ _. h) (λ _. h))
element_timers RunningSum args key e kept s is h =
    map_some _ (option_and_then (λ n. in_word (sum_so_far kept n)) (as_int (part_of e))) s is (λ sum at made. subst (Leaves RunningSum) made h)
element_timers BatchUntil args key e kept s is h =
    subst (Leaves BatchUntil) (same_Some (batch_until (or_zero (number_arg args)) key e kept) s is)
    (cond_both (length (bag (collected e kept)) == or_zero (number_arg args)) _ _ (Leaves BatchUntil)
    (λ _. set_first BatchUntil (collected e kept).timers None (set_first BatchUntil kept.timers (Some (last_time e.span)) h (latest_bound e.span)) tt)
    (λ _. set_first BatchUntil kept.timers (Some (last_time e.span)) h (latest_bound e.span)))
element_timers LatestThenEmit args key e kept s is h =
    subst (Leaves LatestThenEmit) (same_Some (latest_then_emit (number_arg args) e kept) s is)
    (set_first LatestThenEmit (with_latest e kept).timers (Some (later_by (number_arg args) (unwrap_or (number_in (cell_of (with_latest e kept).cells 1)) e.time)))
    (cond_both (is_latest kept e.time) _ _ (λ (k : KeptState). AreTimersOf LatestThenEmit k.timers) (λ _. h) (λ _. h))
    (later_bound (number_arg args) (unwrap_or (number_in (cell_of (with_latest e kept).cells 1)) e.time)))

cleared_timers : (kind : StateKind) (kept : KeptState) (values : List Value) → AreTimersOf kind kept.timers → AreTimersOf kind (cleared_bag kept values).timers
cleared_timers kind kept [] h = set_first kind kept.timers None h tt
cleared_timers kind kept (v ∷ vs) h = set_first kind kept.timers None h tt

timer_timers : (kind : StateKind) (key : Value) (span : Interval) (time : ℤ) (kept : KeptState)
    → AreTimersOf kind kept.timers → AreTimersOf kind (on_first_timer kind key span time kept).kept.timers
timer_timers Dedupe key span time kept h = h
timer_timers RunningSum key span time kept h = h
timer_timers BatchUntil key span time kept h = cleared_timers BatchUntil kept (bag kept) h
timer_timers LatestThenEmit key span time kept h = set_first LatestThenEmit kept.timers None h tt

fired_timers : (kind : StateKind) (key : Value) (span : Interval) (time : ℤ) (kept : KeptState) (s : Stepped) (b : Bool)
    → cond b (Some (on_first_timer kind key span time kept)) (Some (stepped kept [])) ≡ Some s → AreTimersOf kind kept.timers → Leaves kind s
fired_timers kind key span time kept s true e h = subst (Leaves kind) (same_Some (on_first_timer kind key span time kept) s e) (timer_timers kind key span time kept h)
fired_timers kind key span time kept s false e h = subst (Leaves kind) (same_Some (stepped kept []) s e) h

pub steps_timers : (kind : StateKind) (args : Args) (key : Value) (span : Interval) (input : LogInput) (kept : KeptState) (s : Stepped)
    → steps kind args key span input kept ≡ Some s → AreTimersOf kind kept.timers → AreTimersOf kind s.kept.timers
steps_timers kind args key span (Arrived e) kept s is h = element_timers kind args key e kept s is h
steps_timers kind args key span (Fired timer) kept s is h = fired_timers kind key span timer.time kept s (timer.name == 0) is h

-- ---- over a log

pub fresh_timers : (kind : StateKind) → AreTimersOf kind fresh_state.timers
fresh_timers kind = record { first = None; is = refl; allowed = tt }

pub leads_timers : (commits : List CommitMarks) (kind : StateKind) (args : Args) (log : KeyLog) (kept : KeptState) (c : ℕ) (entries : List LogEntry) (end : KeptState)
    → Leads commits kind args log kept c entries end → AreTimersOf kind kept.timers → AreTimersOf kind end.timers
leads_timers commits kind args log kept c [] end h k = subst (λ (s : KeptState). AreTimersOf kind s.timers) h k
leads_timers commits kind args log kept c (entry ∷ later) end h k =
    leads_timers commits kind args log h.2.0 entry.commit later end h.2.2
    (steps_timers kind args log.key log.span entry.input kept (record { kept = h.2.0; outputs = entry.outputs }) h.2.1 k)
