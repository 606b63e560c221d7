-- When a cell is due.
use Rattle.std.proofs.Common.{◌≡◌, ℕ, ◌<◌, ◌≤◌, ℤ, ◌<ℤ◌, ◌≤ℤ◌, Bool, true, false, cond, List, [], ◌∷◌, length, Option, Some, None, refl, sym, ap, ◌∙◌, arith}
use Rattle.std.specs.Prelude.{int_le, ◌&&◌, ◌||◌}
use Rattle.std.specs.Int.{int_min}
use Rattle.std.proofs.lemmas.Int.{ints}
use Rattle.beam_values.specs.States.{IsFirstTimer, IsNoneDue}
use Rattle.beam_values.specs.Times.{IsMark, IsTime, final_mark, greatest_time, least_time}
use Rattle.beam_values.specs.declared.log.Timer.{Timer}
use Rattle.stateful_core.specs.Cells.{KeyCell}
use Rattle.stateful_core.specs.Taking.{first_timer, has_waiting, if_due, is_some}
use Rattle.stateful_core.specs.Trees.{IsDueTime, IsTimerDue, is_ready_at}
use Rattle.stateful_core.specs.declared.waiting.Waiting.{Waiting}
use Rattle.stateful_core.proofs.FirstTimer.{first_is, is_first}
use Rattle.stateful_core.proofs.FirstOfTrees.{le_false, le_true, min_is, none_idle}

pub live_entry : (cell : KeyCell) (n : ℕ) → cell.live ≡ Some n → IsDueTime cell final_mark
live_entry cell n e = record {
  due = λ mark m. none_idle.never mark m
      ∙ sym (ap (λ (o : Option ℕ). (elim o as (λ _. Bool) [ None ↦ true | Some k ↦ false ]) && (has_waiting cell.waiting || is_some (if_due mark (first_timer cell.kept.timers)))) e);
}

free : (mark : ℤ) (cell : KeyCell) → cell.live ≡ None → (has_waiting cell.waiting || is_some (if_due mark (first_timer cell.kept.timers))) ≡ is_ready_at mark cell
free mark cell e =
    sym (ap (λ (o : Option ℕ). (elim o as (λ _. Bool) [ None ↦ true | Some k ↦ false ]) && (has_waiting cell.waiting || is_some (if_due mark (first_timer cell.kept.timers)))) e)

some_waits : (waiting : List Waiting) → 0 < length waiting → has_waiting waiting ≡ true
some_waits [] h = absurd (omega arith)
some_waits (w ∷ ws) h = refl

none_waits : (waiting : List Waiting) → length waiting ≤ 0 → has_waiting waiting ≡ false
none_waits [] h = refl
none_waits (w ∷ ws) h = absurd (omega arith)

at_once : (mark : ℤ) → IsMark mark → int_le least_time (int_min mark greatest_time) ≡ true
at_once mark m = min_is mark (λ b. int_le least_time b) true (λ above. refl) (λ below. le_true least_time mark m.0)

pub waiting_entry : (cell : KeyCell) → cell.live ≡ None → 0 < length cell.waiting → IsDueTime cell least_time
waiting_entry cell e some = record {
  due = λ mark m. at_once mark m ∙ sym (sym (free mark cell e) ∙ ap (λ b. b || is_some (if_due mark (first_timer cell.kept.timers))) (some_waits cell.waiting some));
}

pub timer_entry : (cell : KeyCell) (due : ℤ) → cell.live ≡ None → length cell.waiting ≤ 0 → IsTimerDue cell.kept.timers due → IsDueTime cell due
timer_entry cell due e none h = record {
  due = λ mark m. h.due mark m ∙ sym (sym (free mark cell e) ∙ ap (λ b. b || is_some (if_due mark (first_timer cell.kept.timers))) (none_waits cell.waiting none));
}

pub timer_due : (timers : List (Option ℤ)) (timer : Timer) → IsFirstTimer timers timer → IsTime timer.time → IsTimerDue timers timer.time
timer_due timers timer first within = record { due = λ mark m. min_is mark (λ b. int_le timer.time b) (is_some (if_due mark (first_timer timers))) (above mark) (below mark) }
  where
    set : (mark : ℤ) → is_some (cond (int_le timer.time mark) (Some timer) None) ≡ is_some (if_due mark (first_timer timers))
    set mark = sym (ap (λ o. is_some (if_due mark o)) (first_is timers timer first))

    test : (b : Bool) → b ≡ is_some (cond b (Some timer) None)
    test true = refl
    test false = refl

    above : (mark : ℤ) → greatest_time <ℤ mark → int_le timer.time greatest_time ≡ is_some (if_due mark (first_timer timers))
    above mark h =
        le_true timer.time greatest_time within.1
        ∙ sym (ap (λ b. is_some (cond b (Some timer) None)) (le_true timer.time mark (let w = within.1 in omega (arith, ints, w, h))))
        ∙ set mark

    below : (mark : ℤ) → mark ≤ℤ greatest_time → int_le timer.time mark ≡ is_some (if_due mark (first_timer timers))
    below mark h = test (int_le timer.time mark) ∙ set mark

pub no_timer_due : (timers : List (Option ℤ)) → IsNoneDue timers final_mark → IsTimerDue timers final_mark
no_timer_due timers h = record { due = λ mark m. none_idle.never mark m ∙ by mark m (first_timer timers) refl }
  where
    reach : (mark : ℤ) → IsMark mark → mark ≤ℤ final_mark
    reach mark m = by_ (int_le mark greatest_time) refl
      where
        by_ : (b : Bool) → int_le mark greatest_time ≡ b → mark ≤ℤ final_mark
        by_ true e = omega (arith, ints, e)
        by_ false e = let is = m.1 (omega (arith, ints, e)) in omega (arith, ints, is)

    by : (mark : ℤ) → IsMark mark → (o : Option Timer) → first_timer timers ≡ o → false ≡ is_some (if_due mark (first_timer timers))
    by mark m None e = sym (ap (λ o. is_some (if_due mark o)) e)
    by mark m (Some timer) e =
        let late = h timer.name timer.time (is_first timers timer e).is_set in
        let most = reach mark m in
        sym (ap (λ o. is_some (if_due mark o)) e
        ∙ ap (λ c. is_some (cond c (Some timer) None)) (le_false timer.time mark (omega (arith, ints, late, most))))
