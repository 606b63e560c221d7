-- The tests of a ready cell, part by part.
use Rattle.std.proofs.Common.{◌≡◌, ℕ, zero, suc, ◌<◌, ◌≤◌, min, ℤ, ◌<ℤ◌, ◌≤ℤ◌, Bool, true, false, cond, List, [], ◌∷◌, length, take, get_or, Option, Some, None, refl, sym, ap, ◌∙◌, arith}
use Rattle.std.specs.Prelude.{slice_get, slice_set, int_le, ◌&&◌, ◌||◌}
use Rattle.std.specs.Option.{IfSome, MatchOption, option_map}
use Rattle.std.proofs.lemmas.Int.{ints}
use Rattle.std.proofs.lemmas.List.{map-set, length-map, take_min}
use Rattle.std.proofs.lemmas.Option.{same_Some, slice_get-map, slice_get-get_or, slice_get_within}
use Rattle.beam_values.specs.Marks.{marks_at}
use Rattle.beam_values.specs.States.{IsFirstTimer, IsNoneDue}
use Rattle.beam_values.specs.declared.log.LogInput.{LogInput}
use Rattle.beam_values.specs.declared.log.Timer.{Timer}
use Rattle.beam_values.specs.declared.marks.StageMarks.{StageMarks}
use Rattle.stateful_core.specs.Cells.{KeyCell}
use Rattle.stateful_core.specs.Seen.{cell_of, cells_of}
use Rattle.stateful_core.specs.Taking.{first_timer, if_due, is_some, has_waiting, is_ready, next_place, IsFirstReady, set_by, change, inputs_of, element_inputs, timer_inputs}
use Rattle.stateful_core.specs.declared.place.Place.{Place}
use Rattle.stateful_core.specs.declared.slot.Slot.{Slot}
use Rattle.stateful_core.specs.declared.waiting.Waiting.{Waiting}
use Rattle.stateful_core.proofs.FirstTimer.{first_is, is_first}
use Rattle.stateful_core.proofs.NextReady.{next_found}

-- ---- the first timer that is due

if_late : (mark : ℤ) (timer : Timer) → timer.time ≤ℤ mark → if_due mark (Some timer) ≡ Some timer
if_late mark timer h = by (int_le timer.time mark) refl
  where
    by : (b : Bool) → int_le timer.time mark ≡ b → cond b (Some timer) None ≡ Some timer
    by true e = refl
    by false e = absurd (omega (arith, ints, h))

if_early : (mark : ℤ) (timer : Timer) → mark <ℤ timer.time → if_due mark (Some timer) ≡ None
if_early mark timer h = by (int_le timer.time mark) refl
  where
    by : (b : Bool) → int_le timer.time mark ≡ b → cond b (Some timer) None ≡ None
    by true e = absurd (omega (arith, ints, h))
    by false e = refl

none_due : (mark : ℤ) (timers : List (Option ℤ)) (found : Option Timer) → first_timer timers ≡ found → IsNoneDue timers mark → if_due mark found ≡ None
none_due mark timers None e h = refl
none_due mark timers (Some timer) e h = if_early mark timer (h timer.name timer.time (is_first timers timer e).is_set)

pub due_is : (mark : ℤ) (timers : List (Option ℤ)) (result : Option Timer)
    → MatchOption result (IsNoneDue timers mark) (λ timer. IsFirstTimer timers timer × (timer.time ≤ℤ mark)) → result ≡ if_due mark (first_timer timers)
due_is mark timers None h = sym (none_due mark timers (first_timer timers) refl h)
due_is mark timers (Some timer) h = sym (ap (if_due mark) (first_is timers timer h.0) ∙ if_late mark timer h.1)

-- ---- parts

pub ready_live : (marks : List StageMarks) (cell : KeyCell) (n : ℕ) → cell.live ≡ Some n → false ≡ is_ready marks cell
ready_live marks cell n e =
    sym (ap (λ (o : Option ℕ). (elim o as (λ _. Bool) [ None ↦ true | Some k ↦ false ]) && (has_waiting cell.waiting || is_some (if_due (marks_at marks cell.log.node).mark_in (first_timer cell.kept.timers)))) e)

pub ready_free : (marks : List StageMarks) (cell : KeyCell) → cell.live ≡ None
    → (has_waiting cell.waiting || is_some (if_due (marks_at marks cell.log.node).mark_in (first_timer cell.kept.timers))) ≡ is_ready marks cell
ready_free marks cell e =
    sym (ap (λ (o : Option ℕ). (elim o as (λ _. Bool) [ None ↦ true | Some k ↦ false ]) && (has_waiting cell.waiting || is_some (if_due (marks_at marks cell.log.node).mark_in (first_timer cell.kept.timers)))) e)

none_waits : (waiting : List Waiting) → length waiting ≤ 0 → has_waiting waiting ≡ false
none_waits [] h = refl
none_waits (w ∷ ws) h = absurd (omega arith)

pub ready_due : (marks : List StageMarks) (cell : KeyCell) → cell.live ≡ None → length cell.waiting ≤ 0
    → is_some (if_due (marks_at marks cell.log.node).mark_in (first_timer cell.kept.timers)) ≡ is_ready marks cell
ready_due marks cell e h =
    sym (ap (λ b. b || is_some (if_due (marks_at marks cell.log.node).mark_in (first_timer cell.kept.timers))) (none_waits cell.waiting h)) ∙ ready_free marks cell e

-- ---- one slot in the place of another

pub change_is : (f : KeyCell → KeyCell) (slots : List Slot) (at : ℕ) (d new : Slot) → at < length slots → cell_of new ≡ f (cell_of (get_or slots at d))
    → cells_of (slice_set slots at new) ≡ change f at (cells_of slots)
change_is f slots at d new less is =
    let there : slice_get (cells_of slots) at ≡ Some (cell_of (get_or slots at d)) = slice_get-map cell_of slots at ∙ ap (option_map cell_of) (slice_get-get_or slots at d less) in
    map-set cell_of slots at new ∙ ap (slice_set (cells_of slots) at) is ∙ sym (ap (λ (o : Option KeyCell). set_by f o at (cells_of slots)) there)

-- ---- the inputs of a job

pub inputs_some : (cell : KeyCell) (bundle : ℕ) (inputs : List LogInput) → 1 ≤ bundle → 0 < length cell.waiting → inputs ≡ element_inputs (take bundle cell.waiting)
    → inputs ≡ inputs_of cell (min bundle (length cell.waiting))
inputs_some cell bundle inputs one some e = e ∙ ap element_inputs (sym (take_min bundle cell.waiting)) ∙ by (min bundle (length cell.waiting)) (omega arith)
  where
    by : (n : ℕ) → 1 ≤ n → element_inputs (take n cell.waiting) ≡ inputs_of cell n
    by zero h = absurd (omega arith)
    by (suc n) h = refl

due_none : (mark : ℤ) (first : Option Timer) (timer : Timer) → if_due mark first ≡ Some timer → first ≡ Some timer
due_none mark None timer e = absurd (cc)
due_none mark (Some first) timer e = by (int_le first.time mark) e
  where
    by : (b : Bool) → cond b (Some first) None ≡ Some timer → Some first ≡ Some timer
    by true f = f
    by false f = absurd (cc)

pub inputs_timer : (cell : KeyCell) (bundle : ℕ) (mark : ℤ) (timer : Timer) → length cell.waiting ≤ 0 → Some timer ≡ if_due mark (first_timer cell.kept.timers)
    → timer_inputs (Some timer) ≡ inputs_of cell (min bundle (length cell.waiting))
inputs_timer cell bundle mark timer none e =
    let n : 0 ≡ min bundle (length cell.waiting) = omega (arith, none) in
    ap timer_inputs (sym (due_none mark (first_timer cell.kept.timers) timer (sym e))) ∙ ap (inputs_of cell) n

pub not_ready : (marks : List StageMarks) (cell : KeyCell) → is_ready marks cell ≡ true → length cell.waiting ≤ 0 → None ≡ if_due (marks_at marks cell.log.node).mark_in (first_timer cell.kept.timers) → ⊥
not_ready marks cell on none e = by cell.live refl
  where
    test : (b : Bool) → b ≡ true → b ≡ false → ⊥
    test b h k = cc

    by : (live : Option ℕ) → cell.live ≡ live → ⊥
    by (Some n) f = test (is_ready marks cell) on (sym (ready_live marks cell n f))
    by None f = test (is_ready marks cell) on (sym (ready_due marks cell f none) ∙ ap is_some (sym e))

pub change_at : (f : KeyCell → KeyCell) (slots : List Slot) (at : ℕ) (old new : Slot) → at < length slots → old ≡ get_or slots at old → cell_of new ≡ f (cell_of old)
    → cells_of (slice_set slots at new) ≡ change f at (cells_of slots)
change_at f slots at old new less read is = change_is f slots at old new less (is ∙ ap (λ (s : Slot). f (cell_of s)) read)

-- ---- what the search finds

pub if_found : (marks : List StageMarks) (slots : List Slot) (result : Option Place) → result ≡ next_place marks (cells_of slots) → IfSome result (IsFirstReady marks (cells_of slots))
if_found marks slots None e = tt
if_found marks slots (Some place) e = next_found marks (cells_of slots) place (sym e)

pub if_within : (marks : List StageMarks) (slots : List Slot) (result : Option Place) → result ≡ next_place marks (cells_of slots) → IfSome result (λ place. place.at < length slots)
if_within marks slots None e = tt
if_within marks slots (Some place) e =
    let first = next_found marks (cells_of slots) place (sym e) in
    omega (arith, slice_get_within (cells_of slots) place.at first.cell first.is_at, length-map slots cell_of)

pub slot_ready : (marks : List StageMarks) (slots : List Slot) (place : Place) (slot : Slot) → place.at < length slots → slot ≡ get_or slots place.at slot
    → (first : IsFirstReady marks (cells_of slots) place) → cell_of slot ≡ first.cell
slot_ready marks slots place slot less read first =
    same_Some (cell_of slot) first.cell
    (sym (slice_get-map cell_of slots place.at ∙ ap (option_map cell_of) (slice_get-get_or slots place.at slot less ∙ ap Some (sym read))) ∙ first.is_at)
