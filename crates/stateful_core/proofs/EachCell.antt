-- What holds of each key cell, or of how many cells there are of a node, key and window, over the steps of all cells.
use Rattle.std.proofs.Common.{◌≡◌, ℕ, ◌≤◌, List, [], ◌∷◌, Some, refl, sym, ap, subst, ◌∙◌, arith}
use Rattle.std.specs.Prelude.{slice_get, slice_set, true, Option}
use Rattle.std.specs.List.{All, count_by}
use Rattle.std.specs.Option.{option_map}
use Rattle.std.proofs.lemmas.Bool.{cond_both}
use Rattle.std.proofs.lemmas.List.{map-set}
use Rattle.std.proofs.lemmas.List.Elements.{All-cons, All-head, All-tail, All-set, All-get_or}
use Rattle.std.proofs.lemmas.Option.{get_or_from_slice_get, slice_get_within, slice_get-map}
use Rattle.beam_values.specs.Intervals.{Interval}
use Rattle.beam_values.specs.Nodes.{is_stateful}
use Rattle.beam_values.specs.declared.arrival.Arrival.{Arrival}
use Rattle.beam_values.specs.declared.log.KeyLog.{KeyLog}
use Rattle.beam_values.specs.declared.marks.StageMarks.{StageMarks}
use Rattle.beam_values.specs.declared.plan.Plan.{Plan}
use Rattle.beam_values.specs.declared.value.Value.{Value}
use Rattle.beam_model.specs.Logs.{is_log_of}
use Rattle.stateful_core.specs.Cells.{KeyCell, belongs, logs_of}
use Rattle.stateful_core.specs.Facts.{AreOnce}
use Rattle.stateful_core.specs.Placing.{Done, fresh_cell, waits, with_waiting, place_in, place_one, place_all, with_done, set_done, finish}
use Rattle.stateful_core.specs.Taking.{set_by, change}
use Rattle.stateful_core.proofs.OnceOnly.{own_fresh, once_more, count_set}

-- ---- of each

module _ (P : KeyCell → Type 0) where
  pub cell_at : (cells : List KeyCell) (at : ℕ) (cell : KeyCell) → slice_get cells at ≡ Some cell → All P cells → P cell
  cell_at cells at cell e h = subst P (get_or_from_slice_get cells at cell cell e) (All-get_or P cells at cell (slice_get_within cells at cell e) h)

  module _ (plan : Plan) (before : List StageMarks) (opens : (arrival : Arrival) → is_stateful plan arrival.node ≡ true → P (fresh_cell arrival))
      (grows : (arrival : Arrival) (cell : KeyCell) → belongs arrival cell ≡ true → P cell → P (with_waiting cell (waits before arrival))) where
    in_each : (arrival : Arrival) (cells : List KeyCell) → is_stateful plan arrival.node ≡ true → All P cells → All P (place_in before arrival cells)
    in_each arrival [] on h = All-cons P (with_waiting (fresh_cell arrival) (waits before arrival)) [] (grows arrival (fresh_cell arrival) (own_fresh arrival) (opens arrival on)) h
    in_each arrival (cell ∷ cells) on h =
        cond_both (belongs arrival cell) (with_waiting cell (waits before arrival) ∷ cells) (cell ∷ place_in before arrival cells) (All P)
        (λ e. All-cons P (with_waiting cell (waits before arrival)) cells (grows arrival cell e (All-head P cell cells h)) (All-tail P cell cells h))
        (λ e. All-cons P cell (place_in before arrival cells) (All-head P cell cells h) (in_each arrival cells on (All-tail P cell cells h)))

    pub all_each : (arrivals : List Arrival) (cells : List KeyCell) → All P cells → All P (place_all plan before arrivals cells)
    all_each [] cells h = h
    all_each (arrival ∷ arrivals) cells h =
        all_each arrivals (place_one plan before cells arrival)
        (cond_both (is_stateful plan arrival.node) (place_in before arrival cells) cells (All P) (λ on. in_each arrival cells on h) (λ _. h))

  pub done_each : (before : List StageMarks) (done : Done) (cells : List KeyCell) (cell : KeyCell) → slice_get cells done.cell ≡ Some cell → P (with_done before done cell)
      → All P cells → All P (finish before (Some done) cells)
  done_each before done cells cell e new h =
      subst (λ (found : Option KeyCell). All P (set_done before done found cells)) (sym e) (All-set P cells done.cell (with_done before done cell) new h)

  pub changed_each : (f : KeyCell → KeyCell) (at : ℕ) (cells : List KeyCell) (cell : KeyCell) → slice_get cells at ≡ Some cell → P (f cell) → All P cells → All P (change f at cells)
  changed_each f at cells cell e new h = subst (λ (found : Option KeyCell). All P (set_by f found at cells)) (sym e) (All-set P cells at (f cell) new h)

-- ---- of each node, key and window there is one

log_at : (cells : List KeyCell) (at : ℕ) (cell : KeyCell) → slice_get cells at ≡ Some cell → slice_get (logs_of cells) at ≡ Some cell.log
log_at cells at cell e = slice_get-map (λ (c : KeyCell). c.log) cells at ∙ ap (option_map (λ (c : KeyCell). c.log)) e

set_once : (cells : List KeyCell) (at : ℕ) (cell new : KeyCell) → slice_get cells at ≡ Some cell
    → ((node : ℕ) (key : Value) (span : Interval) → is_log_of node key span new.log ≡ is_log_of node key span cell.log) → AreOnce cells → AreOnce (slice_set cells at new)
set_once cells at cell new e same h node key span =
    let there = map-set (λ (c : KeyCell). c.log) cells at new in
    let counts = count_set (is_log_of node key span) (logs_of cells) at cell.log new.log (log_at cells at cell e) (same node key span) in
    subst (λ (l : List KeyLog). count_by (is_log_of node key span) l ≤ 1) (sym there) (omega (arith, counts, h node key span))

pub all_once : (plan : Plan) (before : List StageMarks) (arrivals : List Arrival) (cells : List KeyCell) → AreOnce cells → AreOnce (place_all plan before arrivals cells)
all_once plan before [] cells h = h
all_once plan before (arrival ∷ arrivals) cells h =
    all_once plan before arrivals (place_one plan before cells arrival)
    (cond_both (is_stateful plan arrival.node) (place_in before arrival cells) cells AreOnce (λ _ node key span. once_more before arrival node key span cells (h node key span)) (λ _. h))

pub done_once : (before : List StageMarks) (done : Done) (cells : List KeyCell) (cell : KeyCell) → slice_get cells done.cell ≡ Some cell → AreOnce cells → AreOnce (finish before (Some done) cells)
done_once before done cells cell e h =
    subst (λ (found : Option KeyCell). AreOnce (set_done before done found cells)) (sym e)
    (set_once cells done.cell cell (with_done before done cell) e (λ node key span. refl) h)

pub changed_once : (f : KeyCell → KeyCell) (at : ℕ) (cells : List KeyCell) (cell : KeyCell) → slice_get cells at ≡ Some cell → (f cell).log ≡ cell.log → AreOnce cells → AreOnce (change f at cells)
changed_once f at cells cell e same h =
    subst (λ (found : Option KeyCell). AreOnce (set_by f found at cells)) (sym e)
    (set_once cells at cell (f cell) e (λ node key span. ap (is_log_of node key span) same) h)
