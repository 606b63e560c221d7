-- A job that is done lowers what is left of its cell, whichever function it calls.
use Rattle.std.proofs.Common.{◌≡◌, ℕ, zero, suc, ◌-◌, ◌<◌, ◌≤◌, ℤ, true, cond, List, [], ◌∷◌, length, drop, replicate, Option, Some, None, sym, ap, subst, ◌∙◌, arith}
use Rattle.std.specs.Prelude.{slice_get, slice_set, unwrap_or, ◌==◌}
use Rattle.std.specs.List.{sum_by}
use Rattle.std.specs.Option.{option_map}
use Rattle.std.proofs.lemmas.Bool.{eq-eqb}
use Rattle.std.proofs.lemmas.List.{length-drop}
use Rattle.std.proofs.lemmas.Option.{same_Some, option_and_then_some}
use Rattle.beam_values.specs.Intervals.{Interval}
use Rattle.beam_values.specs.States.{KeptState, timer_of, IsFirstTimer}
use Rattle.beam_values.specs.declared.log.LogInput.TheVariants.{Fired}
use Rattle.beam_values.specs.declared.log.Timer.{Timer}
use Rattle.beam_values.specs.declared.marks.CommitMarks.{CommitMarks}
use Rattle.beam_values.specs.declared.marks.StageMarks.{StageMarks}
use Rattle.beam_values.specs.declared.plan.Args.{Args}
use Rattle.beam_values.specs.declared.plan.Node.{Node}
use Rattle.beam_values.specs.declared.plan.NodeKind.{NodeKind}
use Rattle.beam_values.specs.declared.plan.NodeKind.TheVariants.{Stateful}
use Rattle.beam_values.specs.declared.plan.Plan.{Plan}
use Rattle.beam_values.specs.declared.plan.StateKind.{StateKind}
use Rattle.beam_values.specs.declared.plan.StateKind.TheVariants.{Dedupe, RunningSum, BatchUntil, LatestThenEmit}
use Rattle.beam_values.specs.declared.value.Value.{Value}
use Rattle.beam_model.specs.Steps.{Stepped, steps, stepped, bag, cleared_bag, on_first_timer}
use Rattle.stateful_core.specs.Cells.{KeyCell}
use Rattle.stateful_core.specs.Facts.{Folded, noted, folded, folded_at, folded_in, IsCellSane, IsLiveAs}
use Rattle.stateful_core.specs.Lasting.{one_if_set, left_of}
use Rattle.stateful_core.specs.Placing.{Done, with_done}
use Rattle.stateful_core.specs.Taking.{timer_inputs, inputs_of}
use Rattle.stateful_core.specs.Timers.{IsAllowed, AreTimersOf, AreTimersAt, AreTimersIn}
use Rattle.stateful_core.proofs.CallsLeave.{folded_timers}
use Rattle.stateful_core.proofs.FirstTimer.{first_is}
use Rattle.stateful_core.proofs.OfSane.{set_name, timers_left, few_left}
use Rattle.stateful_core.proofs.SetTimers.{map_some}

-- ---- the delivery of a timer clears it

set_none : (kind : StateKind) (timers : List (Option ℤ)) → AreTimersOf kind timers → slice_set timers 0 None ≡ replicate 8 None
set_none kind timers h = ap (λ (l : List (Option ℤ)). slice_set l 0 None) h.is

bag_cleared : (kind : StateKind) (kept : KeptState) (values : List Value) → AreTimersOf kind kept.timers → (cleared_bag kept values).timers ≡ replicate 8 None
bag_cleared kind kept [] h = set_none kind kept.timers h
bag_cleared kind kept (v ∷ vs) h = set_none kind kept.timers h

first_cleared : (kind : StateKind) (key : Value) (span : Interval) (time : ℤ) (kept : KeptState) → AreTimersOf kind kept.timers → IsAllowed kind (Some time)
    → (on_first_timer kind key span time kept).kept.timers ≡ replicate 8 None
first_cleared Dedupe key span time kept h allowed = absurd allowed
first_cleared RunningSum key span time kept h allowed = absurd allowed
first_cleared BatchUntil key span time kept h allowed = bag_cleared BatchUntil kept (bag kept) h
first_cleared LatestThenEmit key span time kept h allowed = set_none LatestThenEmit kept.timers h

fired_clears : (kind : StateKind) (args : Args) (key : Value) (span : Interval) (timer : Timer) (kept : KeptState) (s : Stepped)
    → AreTimersOf kind kept.timers → IsFirstTimer kept.timers timer → steps kind args key span (Fired timer) kept ≡ Some s → s.kept.timers ≡ replicate 8 None
fired_clears kind args key span timer kept s h first e =
    let set = set_name h.first timer.name timer.time (subst (λ (l : List (Option ℤ)). timer_of l timer.name ≡ Some timer.time) h.is first.is_set) in
    let zero_named : (timer.name == 0) ≡ true = eq-eqb timer.name 0 set.0 in
    let call : Some (on_first_timer kind key span timer.time kept) ≡ Some s =
    sym (ap (λ b. cond b (Some (on_first_timer kind key span timer.time kept)) (Some (stepped kept []))) zero_named) ∙ e in
    subst (λ (x : Stepped). x.kept.timers ≡ replicate 8 None) (same_Some (on_first_timer kind key span timer.time kept) s call)
    (first_cleared kind key span timer.time kept h (subst (IsAllowed kind) set.1 h.allowed))

-- ---- over a fold

folded_clears : (kind : StateKind) (args : Args) (key : Value) (span : Interval) (c : ℕ) (timer : Timer) (kept : KeptState) (all : Folded)
    → folded kind args key span c kept (Fired timer ∷ []) ≡ Some all → AreTimersOf kind kept.timers → IsFirstTimer kept.timers timer → all.kept.timers ≡ replicate 8 None
folded_clears kind args key span c timer kept all e h first =
    option_and_then_some (λ (s : Stepped). option_map (noted c (Fired timer) s.outputs) (folded kind args key span c s.kept [])) (steps kind args key span (Fired timer) kept) all e
    (λ s at f. map_some (noted c (Fired timer) s.outputs) (folded kind args key span c s.kept []) all f
    (λ rest on is. subst (λ (r : Folded). r.kept.timers ≡ replicate 8 None) is
    (subst (λ (r : Folded). r.kept.timers ≡ replicate 8 None) (same_Some (record { kept = s.kept; entries = [] }) rest on) (fired_clears kind args key span timer kept s h first at))))

-- ---- a job that is done

module _ (commits : List CommitMarks) (before : List StageMarks) (cell : KeyCell) (done : Done) (c : ℕ) where
  abbrev all : Folded
  all = record { kept = done.kept; entries = done.entries }

  of_kind : (kind : StateKind) (args : Args) (count : ℕ) → AreTimersOf kind cell.kept.timers → IsLiveAs commits cell (Some count) → cell.live ≡ Some count
      → folded kind args cell.log.key cell.log.span c cell.kept (inputs_of cell count) ≡ Some all → left_of (with_done before done cell) < left_of cell
  of_kind kind args zero h works live e =
      let first = works.1 in
      let set = set_name h.first works.0.name works.0.time (subst (λ (l : List (Option ℤ)). timer_of l works.0.name ≡ Some works.0.time) h.is first.is_set) in
      let one : sum_by one_if_set cell.kept.timers ≡ 1 = timers_left kind cell.kept.timers h ∙ ap one_if_set set.1 in
      let cleared = folded_clears kind args cell.log.key cell.log.span c works.0 cell.kept all
      (subst (λ (o : Option Timer). folded kind args cell.log.key cell.log.span c cell.kept (timer_inputs o) ≡ Some all) (first_is cell.kept.timers works.0 first) e) h first in
      let none : sum_by one_if_set done.kept.timers ≡ 0 = ap (sum_by one_if_set) cleared in
      let same : length (with_done before done cell).waiting ≡ length cell.waiting = ap (λ (o : Option ℕ). length (drop (unwrap_or o 0) cell.waiting)) live in
      omega (arith, one, none, same)
  of_kind kind args (suc n) h works live e =
      let now = folded_timers kind args cell.log.key cell.log.span c (inputs_of cell (suc n)) cell.kept all e h in
      let few : sum_by one_if_set done.kept.timers ≤ 1 = few_left kind done.kept.timers now in
      let fewer : length (with_done before done cell).waiting ≡ length cell.waiting - suc n =
      ap (λ (o : Option ℕ). length (drop (unwrap_or o 0) cell.waiting)) live ∙ length-drop (suc n) cell.waiting in
      omega (arith, few, fewer, works)

  at_kind : (kind : NodeKind) (count : ℕ) → AreTimersAt kind cell.kept.timers → IsLiveAs commits cell (Some count) → cell.live ≡ Some count
      → folded_at kind cell.log.key cell.log.span c cell.kept (inputs_of cell count) ≡ Some all → left_of (with_done before done cell) < left_of cell
  at_kind (Stateful work args logged) count timers works live e = of_kind work args count timers works live e
  at_kind _ count timers works live e = absurd timers

  at_node : (found : Option Node) (count : ℕ) → AreTimersIn found cell.kept.timers → IsLiveAs commits cell (Some count) → cell.live ≡ Some count
      → folded_in found cell.log.key cell.log.span c cell.kept (inputs_of cell count) ≡ Some all → left_of (with_done before done cell) < left_of cell
  at_node (Some node) count timers works live e = at_kind node.kind count timers works live e
  at_node None count timers works live e = absurd timers

-- of elements or of a timer
pub done_lowers : (plan : Plan) (commits : List CommitMarks) (before : List StageMarks) (cell : KeyCell) (done : Done) (c count : ℕ) → IsCellSane plan commits cell → cell.live ≡ Some count
    → folded_in (slice_get plan.nodes cell.log.node) cell.log.key cell.log.span c cell.kept (inputs_of cell count) ≡ Some (record { kept = done.kept; entries = done.entries })
    → left_of (with_done before done cell) < left_of cell
done_lowers plan commits before cell done c count h live e =
    at_node commits before cell done c (slice_get plan.nodes cell.log.node) count h.timers (subst (IsLiveAs commits cell) live h.works) live e
