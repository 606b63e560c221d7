-- What the calls of a key job give is early where its cell is, and a commit of early arrivals leaves key cells early.
use Rattle.std.proofs.Common.{◌≡◌, ℕ, zero, suc, ℤ, Bool, true, false, cond, List, [], ◌∷◌, length, take, replicate, refl, sym, subst}
use Rattle.std.specs.Prelude.{Option, Some, None, ◌==◌, ◌≤ℤ◌, slice_get, unwrap_or}
use Rattle.std.specs.List.{All}
use Rattle.std.specs.Option.{IfSome, option_and_then, option_map}
use Rattle.std.proofs.lemmas.Bool.{cond_both}
use Rattle.std.proofs.lemmas.List.Elements.{All-nil, All-cons, All-drop, All-head, All-map, All-push, All-set, All-tail, All-take, All-weaker}
use Rattle.beam_values.specs.Grouping.{part_of}
use Rattle.beam_values.specs.Intervals.{Interval}
use Rattle.beam_values.specs.Nodes.{is_stateful}
use Rattle.beam_values.specs.States.{KeptState}
use Rattle.beam_values.specs.Times.{greatest_time}
use Rattle.beam_values.specs.Windows.{or_zero}
use Rattle.beam_values.specs.declared.arrival.Arrival.{Arrival}
use Rattle.beam_values.specs.declared.element.Element.{Element}
use Rattle.beam_values.specs.declared.log.LogInput.{LogInput}
use Rattle.beam_values.specs.declared.log.LogInput.TheVariants.{Arrived, Fired}
use Rattle.beam_values.specs.declared.marks.CommitMarks.{CommitMarks}
use Rattle.beam_values.specs.declared.marks.StageMarks.{StageMarks}
use Rattle.beam_values.specs.declared.plan.Args.{Args}
use Rattle.beam_values.specs.declared.plan.Node.{Node}
use Rattle.beam_values.specs.declared.plan.Plan.{Plan}
use Rattle.beam_values.specs.declared.plan.StateKind.{StateKind}
use Rattle.beam_values.specs.declared.plan.StateKind.TheVariants.{Dedupe, RunningSum, BatchUntil, LatestThenEmit}
use Rattle.beam_values.specs.declared.state_cell.StateCell.TheVariants.{Number}
use Rattle.beam_values.specs.declared.value.Value.{Value}
use Rattle.beam_model.specs.Functions.{ascending, in_word, number_arg, valued}
use Rattle.beam_model.specs.Steps.{Stepped, bag, collected, holds_value, last_batch, on_element, on_first_timer, stepped, sum_so_far, timer_output, with_cell}
use Rattle.beam_model.specs.Values.{as_int, int, pair, seq}
use Rattle.pipeline_graph.specs.Rules.{HasSettings}
use Rattle.stateful_core.specs.Cells.{KeyCell, belongs}
use Rattle.stateful_core.specs.Facts.{AreKeysKept, IsCellKept, IsCellSane}
use Rattle.stateful_core.specs.KeyWork.{key_outputs}
use Rattle.stateful_core.specs.Placing.{Done, finish, fresh_cell, place, place_all, place_in, place_one, set_done, waits, with_done, with_waiting}
use Rattle.stateful_core.specs.Taking.{first_timer, inputs_of, timer_inputs}
use Rattle.stateful_core.specs.Timers.{AreTimersOf, IsAllowed}
use Rattle.stateful_core.specs.declared.key_job.KeyTurn.{KeyTurn}
use Rattle.stateful_core.specs.declared.waiting.Waiting.{Waiting}
use Rattle.stateful_core.proofs.OfSane.{cell_timers}
use Rattle.book_core.specs.Facts.{IsEarly, IsEarlyCell, IsTurnOf, greatest_end}
use Rattle.book_core.proofs.EarlyEnds.{IsEarlyOutput, WindowsOfKind, outputs_early}
use Rattle.book_core.proofs.KeyOutputs.{GivesAll, given_all}
use Rattle.book_core.proofs.Slots.{All-slice_get}

-- ---- a call

-- an element that is early, or a timer at a time that there is, of a window that ends early
abbrev pub IsEarlyInput : Interval → LogInput → Type 0
IsEarlyInput span (Arrived e) = IsEarly e
IsEarlyInput span (Fired timer) = (timer.time ≤ℤ greatest_time) × (span.end ≤ℤ greatest_end)

abbrev GivesEarly : Stepped → Type 0
GivesEarly s = All IsEarly s.outputs

valued_early : (e : Element) → IsEarly e → (v : Value) → All IsEarly (valued e v ∷ [])
valued_early e early v = All-cons IsEarly (valued e v) [] early (All-nil IsEarly)

summed_early : (key : Value) (e : Element) → IsEarly e → (kept : KeptState) (sum : Option ℤ)
    → IfSome (option_map (λ n. stepped (with_cell 0 (Number n) kept) (valued e (pair key (int n)) ∷ [])) sum) GivesEarly
summed_early key e early kept None = tt
summed_early key e early kept (Some n) = valued_early e early (pair key (int n))

element_early : (work : StateKind) (args : Args) (key : Value) (e : Element) → IsEarly e → (kept : KeptState) → IfSome (on_element work args key e kept) GivesEarly
element_early Dedupe args key e early kept =
    cond_both (holds_value (bag kept) (part_of e)) _ _ GivesEarly (λ _. All-nil IsEarly) (λ _. valued_early e early (pair key (part_of e)))
element_early RunningSum args key e early kept = summed_early key e early kept (option_and_then (λ n. in_word (sum_so_far kept n)) (as_int (part_of e)))
element_early BatchUntil args key e early kept =
    cond_both (length (bag (collected e kept)) == or_zero (number_arg args)) _ _ GivesEarly
    (λ _. valued_early e early (pair key (seq (ascending (bag (collected e kept)))))) (λ _. All-nil IsEarly)
element_early LatestThenEmit args key e early kept = All-nil IsEarly

timer_early : (work : StateKind) (key : Value) (span : Interval) (time : ℤ) → time ≤ℤ greatest_time → span.end ≤ℤ greatest_end → (kept : KeptState)
    → GivesEarly (on_first_timer work key span time kept)
timer_early Dedupe key span time low end kept = All-nil IsEarly
timer_early RunningSum key span time low end kept = All-nil IsEarly
timer_early BatchUntil key span time low end kept = rest (bag kept)
  where
    rest : (values : List Value) → All IsEarly (last_batch key span time values)
    rest [] = All-nil IsEarly
    rest (v ∷ vs) = All-cons IsEarly (timer_output span time (pair key (seq (ascending (v ∷ vs))))) [] (low, end) (All-nil IsEarly)
timer_early LatestThenEmit key span time low end kept =
    All-map IsEarly (λ v. timer_output span time (pair key v)) (bag kept) (λ k d inside. (low, end))

call_early : (work : StateKind) (args : Args) (key : Value) (span : Interval) (input : LogInput) → IsEarlyInput span input → GivesAll IsEarly work args key span input
call_early work args key span (Arrived e) early kept = element_early work args key e early kept
call_early work args key span (Fired timer) early kept = by (timer.name == 0)
  where
    by : (first : Bool) → IfSome (cond first (Some (on_first_timer work key span timer.time kept)) (Some (stepped kept []))) GivesEarly
    by true = timer_early work key span timer.time early.0 early.1 kept
    by false = All-nil IsEarly

pub calls_early : WindowsOfKind → (plan : Plan) → ((n : ℕ) (node : Node) → slice_get plan.nodes n ≡ Some node → HasSettings node.kind)
    → (node : ℕ) (key : Value) (span : Interval) (inputs : List LogInput) → All (IsEarlyInput span) inputs → (kept : KeptState) → All IsEarlyOutput (key_outputs plan node key span inputs kept)
calls_early windows plan settings node key span inputs early kept =
    given_all IsEarlyOutput IsEarly plan node tt (λ on e of. outputs_early windows plan settings node e of) key span inputs
    (λ work args. All-weaker (IsEarlyInput span) (GivesAll IsEarly work args key span) (call_early work args key span) inputs early) kept

-- ---- the inputs of a job

allowed_time : (work : StateKind) (time : ℤ) → IsAllowed work (Some time) → time ≤ℤ greatest_time
allowed_time Dedupe time h = absurd h
allowed_time RunningSum time h = absurd h
allowed_time BatchUntil time h = h
allowed_time LatestThenEmit time h = h

timers_early : (work : StateKind) (span : Interval) (timers : List (Option ℤ)) → span.end ≤ℤ greatest_end → AreTimersOf work timers
    → All (IsEarlyInput span) (timer_inputs (first_timer timers))
timers_early work span timers end h =
    subst (λ (l : List (Option ℤ)). All (IsEarlyInput span) (timer_inputs (first_timer l))) (sym h.is) (by h.first h.allowed)
  where
    by : (first : Option ℤ) → IsAllowed work first → All (IsEarlyInput span) (timer_inputs (first_timer (first ∷ replicate 7 None)))
    by None allowed = All-nil (IsEarlyInput span)
    by (Some time) allowed = All-cons (IsEarlyInput span) (Fired (record { name = 0; time = time })) [] (allowed_time work time allowed, end) (All-nil (IsEarlyInput span))

inputs_early : (plan : Plan) (commits : List CommitMarks) (cell : KeyCell) (count : ℕ) → IsCellSane plan commits cell → IsCellKept plan commits cell → IsEarlyCell cell
    → All (IsEarlyInput cell.log.span) (inputs_of cell count)
inputs_early plan commits cell zero sane kept early =
    let timers = cell_timers plan commits cell sane in timers_early timers.0 cell.log.span cell.kept.timers early.span timers.1
inputs_early plan commits cell (suc n) sane kept early =
    All-map (IsEarlyInput cell.log.span) (λ (w : Waiting). Arrived w.element) (take (suc n) cell.waiting)
    (All-take (λ (w : Waiting). IsEarly w.element) (suc n) cell.waiting
    (λ k d inside. (early.waiting k d inside, subst (λ (s : Interval). s.end ≤ℤ greatest_end) (sym (kept.elements k d inside).1) early.span)))

pub turn_early : (plan : Plan) (commits : List CommitMarks) (cells : List KeyCell) (turn : KeyTurn) → AreKeysKept plan commits cells → All IsEarlyCell cells → IsTurnOf cells turn
    → All (IsEarlyInput turn.span) turn.inputs
turn_early plan commits cells turn kept early own =
    subst (λ (t : KeyTurn). All (IsEarlyInput t.span) t.inputs) (sym own.is)
    (inputs_early plan commits own.cell own.count (All-slice_get (IsCellSane plan commits) cells turn.cell own.cell own.is_at kept.sane.each)
    (All-slice_get (IsCellKept plan commits) cells turn.cell own.cell own.is_at kept.each)
    (All-slice_get IsEarlyCell cells turn.cell own.cell own.is_at early))

-- ---- what a commit leaves

abbrev pub IsEarlyArrival : Arrival → Type 0
IsEarlyArrival arrival = IsEarly arrival.element

abbrev IsEarlyWaiting : Waiting → Type 0
IsEarlyWaiting waiting = waiting.element.time ≤ℤ greatest_time

module _ (before : List StageMarks) where
  done_early : (done : Done) (cell : KeyCell) → IsEarlyCell cell → IsEarlyCell (with_done before done cell)
  done_early done cell early = record { span = early.span; waiting = All-drop IsEarlyWaiting (unwrap_or cell.live 0) cell.waiting early.waiting }

  finish_early : (done : Option Done) (cells : List KeyCell) → All IsEarlyCell cells → All IsEarlyCell (finish before done cells)
  finish_early None cells h = h
  finish_early (Some done) cells h = by (slice_get cells done.cell) refl
    where
      by : (found : Option KeyCell) → slice_get cells done.cell ≡ found → All IsEarlyCell (set_done before done found cells)
      by None at = h
      by (Some cell) at =
          All-set IsEarlyCell cells done.cell (with_done before done cell) (done_early done cell (All-slice_get IsEarlyCell cells done.cell cell at h)) h

  waiting_early : (arrival : Arrival) → IsEarlyArrival arrival → (cell : KeyCell) → IsEarlyCell cell → IsEarlyCell (with_waiting cell (waits before arrival))
  waiting_early arrival came cell early = record { span = early.span; waiting = All-push IsEarlyWaiting cell.waiting (waits before arrival) early.waiting came.0 }

  fresh_early : (arrival : Arrival) → IsEarlyArrival arrival → IsEarlyCell (fresh_cell arrival)
  fresh_early arrival came = record { span = came.1; waiting = All-nil IsEarlyWaiting }

  in_early : (arrival : Arrival) → IsEarlyArrival arrival → (cells : List KeyCell) → All IsEarlyCell cells → All IsEarlyCell (place_in before arrival cells)
  in_early arrival came [] h =
      All-cons IsEarlyCell (with_waiting (fresh_cell arrival) (waits before arrival)) [] (waiting_early arrival came (fresh_cell arrival) (fresh_early arrival came)) h
  in_early arrival came (cell ∷ cells) h =
      let first = All-head IsEarlyCell cell cells h in
      let rest = All-tail IsEarlyCell cell cells h in
      cond_both (belongs arrival cell) (with_waiting cell (waits before arrival) ∷ cells) (cell ∷ place_in before arrival cells) (All IsEarlyCell)
      (λ _. All-cons IsEarlyCell (with_waiting cell (waits before arrival)) cells (waiting_early arrival came cell first) rest)
      (λ _. All-cons IsEarlyCell cell (place_in before arrival cells) first (in_early arrival came cells rest))

  all_early : (plan : Plan) (arrivals : List Arrival) → All IsEarlyArrival arrivals → (cells : List KeyCell) → All IsEarlyCell cells
      → All IsEarlyCell (place_all plan before arrivals cells)
  all_early plan [] came cells h = h
  all_early plan (arrival ∷ arrivals) came cells h =
      all_early plan arrivals (All-tail IsEarlyArrival arrival arrivals came) (place_one plan before cells arrival)
      (cond_both (is_stateful plan arrival.node) (place_in before arrival cells) cells (All IsEarlyCell)
      (λ _. in_early arrival (All-head IsEarlyArrival arrival arrivals came) cells h) (λ _. h))

  pub placed_early : (plan : Plan) (done : Option Done) (arrivals : List Arrival) (cells : List KeyCell) → All IsEarlyArrival arrivals → All IsEarlyCell cells
      → All IsEarlyCell (place plan before done arrivals cells)
  placed_early plan done arrivals cells came h = all_early plan arrivals came (finish before done cells) (finish_early done cells h)
