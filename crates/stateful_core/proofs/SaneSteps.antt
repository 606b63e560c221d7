-- Every step of key cells keeps what each is, however its book came about.
use Rattle.std.proofs.Common.{◌≡◌, ℕ, zero, suc, ◌-◌, ◌≤◌, min, ℤ, ◌≤ℤ◌, Bool, true, false, cond, List, [], ◌∷◌, length, replicate, Option, Some, None, refl, sym, ap, subst, arith}
use Rattle.std.specs.Prelude.{slice_get, unwrap_or, int_le, ◌||◌}
use Rattle.std.specs.Option.{option_map}
use Rattle.std.proofs.lemmas.Bool.{and_parts}
use Rattle.std.proofs.lemmas.Int.{ints}
use Rattle.std.proofs.lemmas.List.{get_or_past, length-append}
use Rattle.std.proofs.lemmas.List.Elements.{All-weaker}
use Rattle.beam_values.specs.Marks.{marks_at}
use Rattle.beam_values.specs.Nodes.{is_stateful, is_stateful_kind}
use Rattle.beam_values.specs.States.{fresh_state, timer_of, IsFirstTimer}
use Rattle.beam_values.specs.declared.arrival.Arrival.{Arrival}
use Rattle.beam_values.specs.declared.log.Timer.{Timer}
use Rattle.beam_values.specs.declared.marks.CommitMarks.{CommitMarks}
use Rattle.beam_values.specs.declared.marks.StageMarks.{StageMarks}
use Rattle.beam_values.specs.declared.plan.Node.{Node}
use Rattle.beam_values.specs.declared.plan.NodeKind.{NodeKind}
use Rattle.beam_values.specs.declared.plan.NodeKind.TheVariants.{Stateful}
use Rattle.beam_values.specs.declared.plan.Plan.{Plan}
use Rattle.beam_model.specs.Panes.{mark_after}
use Rattle.stateful_core.specs.Cells.{KeyCell}
use Rattle.stateful_core.specs.declared.waiting.Waiting.{Waiting}
use Rattle.stateful_core.specs.Facts.{IsLiveAs, IsCellSane, AreKeysSane, IsDoneOf, AreDoneOf, Later}
use Rattle.stateful_core.specs.Placing.{Done, fresh_cell, waits, with_waiting, place_all, with_done, finish, place, timer_hold_after, timer_holds_after}
use Rattle.stateful_core.specs.Taking.{first_timer, if_due, is_some, is_free, has_waiting, inputs_of, is_ready, with_job, tried, change}
use Rattle.stateful_core.specs.Timers.{AreTimersAt, AreTimersIn}
use Rattle.stateful_core.proofs.CallsLeave.{in_left}
use Rattle.stateful_core.proofs.EachCell.{cell_at, all_each, done_each, changed_each, all_once, done_once, changed_once}
use Rattle.stateful_core.proofs.FirstTimer.{is_first}
use Rattle.stateful_core.proofs.OfSane.{timers_sized}
use Rattle.stateful_core.proofs.SetTimers.{fresh_timers}

-- ---- an arrival

live_more : (commits : List CommitMarks) (cell : KeyCell) (w : Waiting) (live : Option ℕ) → IsLiveAs commits cell live → IsLiveAs commits (with_waiting cell w) live
live_more commits cell w None h = tt
live_more commits cell w (Some zero) h = h
live_more commits cell w (Some (suc n)) h = omega (arith, h, length-append cell.waiting (w ∷ []))

waiting_sane : (plan : Plan) (commits : List CommitMarks) (cell : KeyCell) (w : Waiting) → IsCellSane plan commits cell → IsCellSane plan commits (with_waiting cell w)
waiting_sane plan commits cell w h = record {
  timers = h.timers;
  states = h.states;
  works = live_more commits cell w cell.live h.works;
  sized = h.sized;
  holds = h.holds;
}

fresh_at : (kind : NodeKind) → is_stateful_kind kind ≡ true → AreTimersAt kind fresh_state.timers
fresh_at (Stateful work args logged) h = fresh_timers work
fresh_at _ h = absurd (cc)

abbrev is_stateful_in : Option Node → Bool
is_stateful_in found = unwrap_or (option_map (λ n. is_stateful_kind n.kind) found) false

fresh_in : (found : Option Node) → is_stateful_in found ≡ true → AreTimersIn found fresh_state.timers
fresh_in (Some node) h = fresh_at node.kind h
fresh_in None h = absurd (cc)

none_set : (name : ℕ) → is_some (timer_of (replicate 8 None) name) ≡ is_some (timer_of fresh_state.timers name)
none_set name = refl

fresh_sane : (plan : Plan) (commits : List CommitMarks) (arrival : Arrival) → is_stateful plan arrival.node ≡ true → IsCellSane plan commits (fresh_cell arrival)
fresh_sane plan commits arrival h = record {
  timers = fresh_in (slice_get plan.nodes arrival.node) h;
  states = refl;
  works = tt;
  sized = refl;
  holds = none_set;
}

pub all_sane : (plan : Plan) (commits : List CommitMarks) (before : List StageMarks) (arrivals : List Arrival) (cells : List KeyCell)
    → AreKeysSane plan commits cells → AreKeysSane plan commits (place_all plan before arrivals cells)
all_sane plan commits before arrivals cells h = record {
  each = all_each (IsCellSane plan commits) plan before (fresh_sane plan commits) (λ arrival cell _ k. waiting_sane plan commits cell (waits before arrival) k) arrivals cells h.each;
  once = all_once plan before arrivals cells h.once;
}

-- ---- one commit later

live_later : (commits others : List CommitMarks) → Later commits others → (cell : KeyCell) (live : Option ℕ) → IsLiveAs commits cell live → IsLiveAs others cell live
live_later commits others later cell None h = tt
live_later commits others later cell (Some zero) h =
    let last : length commits ≡ length others - 1 = omega (arith, later.sized, later.some) in
    let due : h.0.time ≤ℤ mark_after others cell.log.node (length commits) = omega (arith, ints, h.2, later.rises cell.log.node) in
    (h.0, h.1, subst (λ (n : ℕ). h.0.time ≤ℤ mark_after others cell.log.node n) last due)
live_later commits others later cell (Some (suc n)) h = h

cell_later : (plan : Plan) (commits others : List CommitMarks) → Later commits others → (cell : KeyCell) → IsCellSane plan commits cell → IsCellSane plan others cell
cell_later plan commits others later cell h = record {
  timers = h.timers;
  states = h.states;
  works = live_later commits others later cell cell.live h.works;
  sized = h.sized;
  holds = h.holds;
}

pub sane_later : (plan : Plan) (commits others : List CommitMarks) (cells : List KeyCell) → Later commits others → AreKeysSane plan commits cells → AreKeysSane plan others cells
sane_later plan commits others cells later h = record {
  each = All-weaker (IsCellSane plan commits) (IsCellSane plan others) (cell_later plan commits others later) cells h.each;
  once = h.once;
}

-- ---- a job is done

abbrev AreSet : List (Option ℤ) → List (Option ℤ) → Type 0
AreSet holds timers = (name : ℕ) → is_some (timer_of holds name) ≡ is_some (timer_of timers name)

hold_set : (mark : ℤ) (hold old new : Option ℤ) → is_some (timer_hold_after mark hold old new) ≡ is_some new
hold_set mark hold old None = refl
hold_set mark hold old (Some time) = refl

past : (timers : List (Option ℤ)) (k : ℕ) → length timers ≡ 8 → timer_of timers (suc (suc (suc (suc (suc (suc (suc (suc k)))))))) ≡ None
past timers k e = get_or_past timers (suc (suc (suc (suc (suc (suc (suc (suc k)))))))) None (omega (arith, e))

holds_set : (mark : ℤ) (holds olds news : List (Option ℤ)) → length news ≡ 8 → AreSet (timer_holds_after mark holds olds news) news
holds_set mark holds olds news e zero = hold_set mark (timer_of holds 0) (timer_of olds 0) (timer_of news 0)
holds_set mark holds olds news e (suc zero) = hold_set mark (timer_of holds 1) (timer_of olds 1) (timer_of news 1)
holds_set mark holds olds news e (suc (suc zero)) = hold_set mark (timer_of holds 2) (timer_of olds 2) (timer_of news 2)
holds_set mark holds olds news e (suc (suc (suc zero))) = hold_set mark (timer_of holds 3) (timer_of olds 3) (timer_of news 3)
holds_set mark holds olds news e (suc (suc (suc (suc zero)))) = hold_set mark (timer_of holds 4) (timer_of olds 4) (timer_of news 4)
holds_set mark holds olds news e (suc (suc (suc (suc (suc zero))))) = hold_set mark (timer_of holds 5) (timer_of olds 5) (timer_of news 5)
holds_set mark holds olds news e (suc (suc (suc (suc (suc (suc zero)))))) = hold_set mark (timer_of holds 6) (timer_of olds 6) (timer_of news 6)
holds_set mark holds olds news e (suc (suc (suc (suc (suc (suc (suc zero))))))) = hold_set mark (timer_of holds 7) (timer_of olds 7) (timer_of news 7)
holds_set mark holds olds news e (suc (suc (suc (suc (suc (suc (suc (suc k)))))))) = ap is_some (sym (past news k e))

done_sane : (plan : Plan) (commits others : List CommitMarks) (c : ℕ) (before : List StageMarks) (cells : List KeyCell) (done : Done) (made : IsDoneOf plan c cells done)
    → IsCellSane plan commits made.cell → IsCellSane plan others (with_done before done made.cell)
done_sane plan commits others c before cells done made h =
    let cell = made.cell in
    let left = in_left (slice_get plan.nodes cell.log.node) cell.log.key cell.log.span c cell.kept (inputs_of cell made.count) (record { kept = done.kept; entries = done.entries })
    made.folds h.timers h.states in
    record {
      timers = left.0;
      states = left.1;
      works = tt;
      sized = refl;
      holds = holds_set (marks_at before cell.log.node).mark_out cell.timer_holds cell.kept.timers done.kept.timers (timers_sized (slice_get plan.nodes cell.log.node) done.kept.timers left.0);
    }

finish_sane : (plan : Plan) (commits others : List CommitMarks) (before : List StageMarks) (c : ℕ) (done : Option Done) (cells : List KeyCell)
    → Later commits others → AreDoneOf plan c cells done → AreKeysSane plan commits cells → AreKeysSane plan others (finish before done cells)
finish_sane plan commits others before c None cells later made h = sane_later plan commits others cells later h
finish_sane plan commits others before c (Some done) cells later made h =
    let own = cell_at (IsCellSane plan commits) cells done.cell made.cell made.is_at h.each in
    let now = sane_later plan commits others cells later h in
    record {
      each = done_each (IsCellSane plan others) before done cells made.cell made.is_at (done_sane plan commits others c before cells done made own) now.each;
      once = done_once before done cells made.cell made.is_at now.once;
    }

-- the whole of a commit
pub place_sane : (plan : Plan) (commits others : List CommitMarks) (before : List StageMarks) (c : ℕ) (done : Option Done) (arrivals : List Arrival) (cells : List KeyCell)
    → Later commits others → AreDoneOf plan c cells done → AreKeysSane plan commits cells → AreKeysSane plan others (place plan before done arrivals cells)
place_sane plan commits others before c done arrivals cells later made h =
    all_sane plan others before arrivals (finish before done cells) (finish_sane plan commits others before c done cells later made h)

-- ---- a job is taken or given back

changed_sane : (plan : Plan) (commits : List CommitMarks) (f : KeyCell → KeyCell) (at : ℕ) (cells : List KeyCell) (cell : KeyCell) → slice_get cells at ≡ Some cell
    → (f cell).log ≡ cell.log → (IsCellSane plan commits cell → IsCellSane plan commits (f cell))
    → AreKeysSane plan commits cells → AreKeysSane plan commits (change f at cells)
changed_sane plan commits f at cells cell e same keeps h = record {
  each = changed_each (IsCellSane plan commits) f at cells cell e (keeps (cell_at (IsCellSane plan commits) cells at cell e h.each)) h.each;
  once = changed_once f at cells cell e same h.once;
}

tried_sane : (plan : Plan) (commits : List CommitMarks) (cell : KeyCell) → IsCellSane plan commits cell → IsCellSane plan commits (tried cell)
tried_sane plan commits cell h = record { timers = h.timers; states = h.states; works = tt; sized = h.sized; holds = h.holds }

pub give_back_sane : (plan : Plan) (commits : List CommitMarks) (at : ℕ) (cells : List KeyCell) (cell : KeyCell) → slice_get cells at ≡ Some cell
    → AreKeysSane plan commits cells → AreKeysSane plan commits (change tried at cells)
give_back_sane plan commits at cells cell e h = changed_sane plan commits tried at cells cell e refl (tried_sane plan commits cell) h

-- a ready cell has elements, or its first timer is due
timer_ready : (marks : List StageMarks) (cell : KeyCell) (found : Option Timer) → first_timer cell.kept.timers ≡ found → is_some (if_due (marks_at marks cell.log.node).mark_in found) ≡ true
    → (timer : Timer) × IsFirstTimer cell.kept.timers timer × (timer.time ≤ℤ (marks_at marks cell.log.node).mark_in)
timer_ready marks cell None e h = absurd (cc)
timer_ready marks cell (Some timer) e h = (timer, is_first cell.kept.timers timer e, by (int_le timer.time (marks_at marks cell.log.node).mark_in) refl h)
  where
    by : (b : Bool) → int_le timer.time (marks_at marks cell.log.node).mark_in ≡ b → is_some (cond b (Some timer) None) ≡ true → timer.time ≤ℤ (marks_at marks cell.log.node).mark_in
    by true f k = omega (arith, ints)
    by false f k = absurd (cc)

live_from : (commits : List CommitMarks) (marks : List StageMarks) (bundle : ℕ) (cell : KeyCell) → 1 ≤ bundle
    → (marks_at marks cell.log.node).mark_in ≡ mark_after commits cell.log.node (length commits - 1) → is_ready marks cell ≡ true
    → IsLiveAs commits (with_job bundle cell) (Some (min bundle (length cell.waiting)))
live_from commits marks bundle cell one last ready = by cell.waiting refl
  where
    more : (n : ℕ) (w : Waiting) (ws : List Waiting) → cell.waiting ≡ w ∷ ws → min bundle (length (w ∷ ws)) ≡ n → IsLiveAs commits (with_job bundle cell) (Some n)
    more zero w ws e f = absurd (omega (arith, f, one))
    more (suc n) w ws e f = omega (arith, f, ap length e)

    by : (waiting : List Waiting) → cell.waiting ≡ waiting → IsLiveAs commits (with_job bundle cell) (Some (min bundle (length cell.waiting)))
    by [] e =
        let parts = and_parts (is_free cell) (has_waiting cell.waiting || is_some (if_due (marks_at marks cell.log.node).mark_in (first_timer cell.kept.timers))) ready in
        let due : is_some (if_due (marks_at marks cell.log.node).mark_in (first_timer cell.kept.timers)) ≡ true =
        subst (λ (ws : List Waiting). (has_waiting ws || is_some (if_due (marks_at marks cell.log.node).mark_in (first_timer cell.kept.timers))) ≡ true) e parts.1 in
        let found = timer_ready marks cell (first_timer cell.kept.timers) refl due in
        let none : 0 ≡ min bundle (length cell.waiting) = omega (arith, ap length e) in
        subst (λ (n : ℕ). IsLiveAs commits (with_job bundle cell) (Some n)) none
        (found.0, found.1, subst (λ (m : ℤ). found.0.time ≤ℤ m) last found.2)
    by (w ∷ ws) e =
        let same : min bundle (length (w ∷ ws)) ≡ min bundle (length cell.waiting) = ap (λ (l : List Waiting). min bundle (length l)) (sym e) in
        more (min bundle (length cell.waiting)) w ws e same

job_sane : (plan : Plan) (commits : List CommitMarks) (marks : List StageMarks) (bundle : ℕ) (cell : KeyCell) → 1 ≤ bundle
    → (marks_at marks cell.log.node).mark_in ≡ mark_after commits cell.log.node (length commits - 1) → is_ready marks cell ≡ true
    → IsCellSane plan commits cell → IsCellSane plan commits (with_job bundle cell)
job_sane plan commits marks bundle cell one last ready h = record {
  timers = h.timers;
  states = h.states;
  works = live_from commits marks bundle cell one last ready;
  sized = h.sized;
  holds = h.holds;
}

pub take_sane : (plan : Plan) (commits : List CommitMarks) (marks : List StageMarks) (bundle at : ℕ) (cells : List KeyCell) (cell : KeyCell) → 1 ≤ bundle
    → ((node : ℕ) → (marks_at marks node).mark_in ≡ mark_after commits node (length commits - 1))
    → slice_get cells at ≡ Some cell → is_ready marks cell ≡ true
    → AreKeysSane plan commits cells → AreKeysSane plan commits (change (with_job bundle) at cells)
take_sane plan commits marks bundle at cells cell one last e ready h =
    changed_sane plan commits (with_job bundle) at cells cell e refl (job_sane plan commits marks bundle cell one (last cell.log.node) ready) h
