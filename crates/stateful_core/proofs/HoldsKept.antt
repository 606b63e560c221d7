-- What holds nodes back: which holds a commit adds, and that none lies below the mark after its node.
use Rattle.std.proofs.Common.{◌≡◌, ℕ, zero, suc, ◌+◌, ℤ, ◌≤ℤ◌, Bool, true, false, cond, List, [], ◌∷◌, ◌++◌, map, drop, Option, Some, None, refl, sym, ap, subst, arith}
use Rattle.std.specs.Prelude.{slice_get, slice_set, unwrap_or}
use Rattle.std.specs.Int.{int_max}
use Rattle.std.specs.Ordering.{int_eq}
use Rattle.std.specs.List.{All, flat_map, filter, sum_by}
use Rattle.std.proofs.lemmas.Bool.{cond_both}
use Rattle.std.proofs.lemmas.Int.{ints, clamps}
use Rattle.std.proofs.lemmas.List.{map-append}
use Rattle.std.proofs.lemmas.List.Elements.{All-nil, All-cons, All-head, All-tail, All-append}
use Rattle.std.proofs.lemmas.List.Sums.{sum_by-cons, sum_by-append}
use Rattle.beam_values.specs.Bags.{IsSameBag}
use Rattle.beam_values.specs.Marks.{marks_at}
use Rattle.beam_values.specs.Nodes.{is_stateful}
use Rattle.beam_values.specs.States.{timer_of}
use Rattle.beam_values.specs.declared.arrival.Arrival.{Arrival}
use Rattle.beam_values.specs.declared.marks.StageMarks.{StageMarks}
use Rattle.beam_values.specs.declared.plan.Plan.{Plan}
use Rattle.beam_model.specs.Holds.{Hold, arrival_hold}
use Rattle.stateful_core.specs.Cells.{KeyCell, belongs, element_hold, timer_hold, cell_holds, key_holds}
use Rattle.stateful_core.specs.declared.waiting.Waiting.{Waiting}
use Rattle.stateful_core.specs.Lasting.{AreAbove, arrival_holds}
use Rattle.stateful_core.specs.Placing.{Done, fresh_cell, waits, with_waiting, place_in, place_one, place_all, with_done, set_done, finish, place, timer_hold_after, timer_names, timer_holds_after}
use Rattle.stateful_core.proofs.OnceOnly.{belongs_keyed}

-- ---- an arrival adds its hold

module _ (before : List StageMarks) (arrival : Arrival) (w : Hold → ℕ) where
  cell_weighs : (cell : KeyCell) → arrival.node ≡ cell.log.node → sum_by w (cell_holds (with_waiting cell (waits before arrival))) ≡ sum_by w (cell_holds cell) + w (arrival_hold before arrival)
  cell_weighs cell e =
      let node = cell.log.node in
      let timers = flat_map (timer_hold node) cell.timer_holds in
      omega (
        arith,
        ap (sum_by w) (map-append (element_hold node) cell.waiting (waits before arrival ∷ [])),
        sum_by-append w (map (element_hold node) cell.waiting) (element_hold node (waits before arrival) ∷ []),
        sum_by-cons w (element_hold node (waits before arrival)) [],
        ap (λ (n : ℕ). w (record { node = n; mark = (arrival_hold before arrival).mark })) e,
        sum_by-append w (map (element_hold node) (cell.waiting ++ waits before arrival ∷ [])) timers,
        sum_by-append w (map (element_hold node) cell.waiting) timers,
      )

  in_holds : (cells : List KeyCell) → sum_by w (key_holds (place_in before arrival cells)) ≡ sum_by w (key_holds cells) + w (arrival_hold before arrival)
  in_holds [] =
      let fresh = with_waiting (fresh_cell arrival) (waits before arrival) in
      omega (arith, sum_by-append w (cell_holds fresh) [], cell_weighs (fresh_cell arrival) refl)
  in_holds (cell ∷ cells) = by (belongs arrival cell) refl (in_holds cells)
    where
      by : (b : Bool) → belongs arrival cell ≡ b → sum_by w (key_holds (place_in before arrival cells)) ≡ sum_by w (key_holds cells) + w (arrival_hold before arrival)
          → sum_by w (key_holds (cond b (with_waiting cell (waits before arrival) ∷ cells) (cell ∷ place_in before arrival cells))) ≡ sum_by w (cell_holds cell ++ key_holds cells) + w (arrival_hold before arrival)
      by true e h =
          omega (
            arith,
            sum_by-append w (cell_holds (with_waiting cell (waits before arrival))) (key_holds cells),
            cell_weighs cell (belongs_keyed arrival cell e).2,
            sum_by-append w (cell_holds cell) (key_holds cells),
          )
      by false e h =
          omega (arith, h, sum_by-append w (cell_holds cell) (key_holds (place_in before arrival cells)), sum_by-append w (cell_holds cell) (key_holds cells))

  one_holds : (plan : Plan) (cells : List KeyCell)
      → sum_by w (key_holds (place_one plan before cells arrival)) ≡ sum_by w (key_holds cells) + cond (is_stateful plan arrival.node) (w (arrival_hold before arrival)) 0
  one_holds plan cells = by (is_stateful plan arrival.node)
    where
      by : (b : Bool) → sum_by w (key_holds (cond b (place_in before arrival cells) cells)) ≡ sum_by w (key_holds cells) + cond b (w (arrival_hold before arrival)) 0
      by true = in_holds cells
      by false = omega arith

holds_of_more : (plan : Plan) (before : List StageMarks) (w : Hold → ℕ) (arrival : Arrival) (arrivals : List Arrival)
    → sum_by w (arrival_holds plan before (arrival ∷ arrivals)) ≡ cond (is_stateful plan arrival.node) (w (arrival_hold before arrival)) 0 + sum_by w (arrival_holds plan before arrivals)
holds_of_more plan before w arrival arrivals = by (is_stateful plan arrival.node)
  where
    by : (b : Bool) → sum_by w (map (arrival_hold before) (cond b (arrival ∷ filter (λ a. is_stateful plan a.node) arrivals) (filter (λ a. is_stateful plan a.node) arrivals)))
        ≡ cond b (w (arrival_hold before arrival)) 0 + sum_by w (arrival_holds plan before arrivals)
    by true = sum_by-cons w (arrival_hold before arrival) (arrival_holds plan before arrivals)
    by false = omega arith

all_holds_weigh : (plan : Plan) (before : List StageMarks) (w : Hold → ℕ) (arrivals : List Arrival) (cells : List KeyCell)
    → sum_by w (key_holds (place_all plan before arrivals cells)) ≡ sum_by w (key_holds cells) + sum_by w (arrival_holds plan before arrivals)
all_holds_weigh plan before w [] cells = omega arith
all_holds_weigh plan before w (arrival ∷ arrivals) cells =
    omega (
      arith,
      all_holds_weigh plan before w arrivals (place_one plan before cells arrival),
      one_holds before arrival w plan cells,
      holds_of_more plan before w arrival arrivals,
    )

pub place_holds_bag : (plan : Plan) (before : List StageMarks) (arrivals : List Arrival) (cells : List KeyCell)
    → IsSameBag (key_holds (place_all plan before arrivals cells)) (key_holds cells ++ arrival_holds plan before arrivals)
place_holds_bag plan before arrivals cells = record {
  weighs = λ w. omega (arith, all_holds_weigh plan before w arrivals cells, sum_by-append w (key_holds cells) (arrival_holds plan before arrivals));
}

-- ---- none lies below the mark after its node

module _ (before : List StageMarks) where
  abbrev Above : Hold → Type 0
  Above hold = (marks_at before hold.node).mark_out ≤ℤ hold.mark

  -- by cells
  abbrev CellAbove : KeyCell → Type 0
  CellAbove cell = All Above (cell_holds cell)

  all_flat : (cells : List KeyCell) → All CellAbove cells → All Above (key_holds cells)
  all_flat [] h = All-nil Above
  all_flat (cell ∷ cells) h = All-append Above (cell_holds cell) (key_holds cells) (All-head CellAbove cell cells h) (all_flat cells (All-tail CellAbove cell cells h))

  first_part : (xs ys : List Hold) → All Above (xs ++ ys) → All Above xs
  first_part [] ys h = All-nil Above
  first_part (x ∷ xs) ys h = All-cons Above x xs (All-head Above x (xs ++ ys) h) (first_part xs ys (All-tail Above x (xs ++ ys) h))

  second_part : (xs ys : List Hold) → All Above (xs ++ ys) → All Above ys
  second_part [] ys h = h
  second_part (x ∷ xs) ys h = second_part xs ys (All-tail Above x (xs ++ ys) h)

  flat_all : (cells : List KeyCell) → All Above (key_holds cells) → All CellAbove cells
  flat_all [] h = All-nil CellAbove
  flat_all (cell ∷ cells) h =
      All-cons CellAbove cell cells (first_part (cell_holds cell) (key_holds cells) h) (flat_all cells (second_part (cell_holds cell) (key_holds cells) h))

  anew_above : (node : ℕ) (time : ℤ) → All Above (timer_hold node (Some (int_max time (marks_at before node).mark_out)))
  anew_above node time = All-cons Above (record { node = node; mark = int_max time (marks_at before node).mark_out }) [] (omega (arith, ints, clamps)) (All-nil Above)

  after_above : (node : ℕ) (hold old new : Option ℤ) → All Above (timer_hold node hold)
      → All Above (timer_hold node (timer_hold_after (marks_at before node).mark_out hold old new))
  after_above node hold old None h = All-nil Above
  after_above node hold None (Some time) h = anew_above node time
  after_above node None (Some was) (Some time) h = anew_above node time
  after_above node (Some mark) (Some was) (Some time) h =
      cond_both (int_eq was time) mark (int_max time (marks_at before node).mark_out) (λ (m : ℤ). All Above (timer_hold node (Some m))) (λ _. h) (λ _. anew_above node time)

  held_above : (node : ℕ) (holds : List (Option ℤ)) (name : ℕ) → All Above (flat_map (timer_hold node) holds) → All Above (timer_hold node (timer_of holds name))
  held_above node [] name h = All-nil Above
  held_above node (hold ∷ holds) zero h = first_part (timer_hold node hold) (flat_map (timer_hold node) holds) h
  held_above node (hold ∷ holds) (suc name) h = held_above node holds name (second_part (timer_hold node hold) (flat_map (timer_hold node) holds) h)

  names_above : (node : ℕ) (holds olds news : List (Option ℤ)) (names : List ℕ) → All Above (flat_map (timer_hold node) holds)
      → All Above (flat_map (timer_hold node) (map (λ name. timer_hold_after (marks_at before node).mark_out (timer_of holds name) (timer_of olds name) (timer_of news name)) names))
  names_above node holds olds news [] h = All-nil Above
  names_above node holds olds news (name ∷ names) h =
      All-append Above (timer_hold node (timer_hold_after (marks_at before node).mark_out (timer_of holds name) (timer_of olds name) (timer_of news name)))
      (flat_map (timer_hold node) (map (λ k. timer_hold_after (marks_at before node).mark_out (timer_of holds k) (timer_of olds k) (timer_of news k)) names))
      (after_above node (timer_of holds name) (timer_of olds name) (timer_of news name) (held_above node holds name h))
      (names_above node holds olds news names h)

  timers_above : (node : ℕ) (holds olds news : List (Option ℤ)) → All Above (flat_map (timer_hold node) holds)
      → All Above (flat_map (timer_hold node) (timer_holds_after (marks_at before node).mark_out holds olds news))
  timers_above node holds olds news h = names_above node holds olds news timer_names h

  dropped_above : (node n : ℕ) (waiting : List Waiting) → All Above (map (element_hold node) waiting) → All Above (map (element_hold node) (drop n waiting))
  dropped_above node zero waiting h = h
  dropped_above node (suc n) [] h = h
  dropped_above node (suc n) (w ∷ waiting) h = dropped_above node n waiting (All-tail Above (element_hold node w) (map (element_hold node) waiting) h)

  done_above : (cell : KeyCell) (done : Done) → CellAbove cell → CellAbove (with_done before done cell)
  done_above cell done h =
      let node = cell.log.node in
      let elements = map (element_hold node) cell.waiting in
      let timers = flat_map (timer_hold node) cell.timer_holds in
      All-append Above (map (element_hold node) (drop (unwrap_or cell.live 0) cell.waiting)) (flat_map (timer_hold node) (with_done before done cell).timer_holds)
      (dropped_above node (unwrap_or cell.live 0) cell.waiting (first_part elements timers h))
      (timers_above node cell.timer_holds cell.kept.timers done.kept.timers (second_part elements timers h))

  set_above : (cells : List KeyCell) (at : ℕ) (cell new : KeyCell) → slice_get cells at ≡ Some cell → (CellAbove cell → CellAbove new) → All CellAbove cells → All CellAbove (slice_set cells at new)
  set_above [] at cell new e keeps h = h
  set_above (c ∷ cells) zero cell new e keeps h =
      let own : CellAbove cell = subst CellAbove (same e) (All-head CellAbove c cells h) in
      All-cons CellAbove new cells (keeps own) (All-tail CellAbove c cells h)
    where
      same : Some c ≡ Some cell → c ≡ cell
      same f = cc
  set_above (c ∷ cells) (suc at) cell new e keeps h =
      All-cons CellAbove c (slice_set cells at new) (All-head CellAbove c cells h) (set_above cells at cell new e keeps (All-tail CellAbove c cells h))

  finish_above : (done : Option Done) (cells : List KeyCell) → AreAbove before (key_holds cells) → AreAbove before (key_holds (finish before done cells))
  finish_above None cells h = h
  finish_above (Some done) cells h = by (slice_get cells done.cell) refl
    where
      by : (found : Option KeyCell) → slice_get cells done.cell ≡ found → AreAbove before (key_holds (set_done before done found cells))
      by None e = h
      by (Some cell) e =
          all_flat (slice_set cells done.cell (with_done before done cell)) (set_above cells done.cell cell (with_done before done cell) e (done_above cell done) (flat_all cells h))

  arrived_above : (arrivals : List Arrival) → All Above (map (arrival_hold before) arrivals)
  arrived_above [] = All-nil Above
  arrived_above (arrival ∷ arrivals) = All-cons Above (arrival_hold before arrival) (map (arrival_hold before) arrivals) (omega (arith, ints, clamps)) (arrived_above arrivals)

  waiting_above : (arrival : Arrival) (cell : KeyCell) → arrival.node ≡ cell.log.node → CellAbove cell → CellAbove (with_waiting cell (waits before arrival))
  waiting_above arrival cell e h =
      let node = cell.log.node in
      let elements = map (element_hold node) cell.waiting in
      let timers = flat_map (timer_hold node) cell.timer_holds in
      let own : Above (element_hold node (waits before arrival)) = subst (λ (n : ℕ). Above (record { node = n; mark = (arrival_hold before arrival).mark })) e (omega (arith, ints, clamps)) in
      All-append Above (map (element_hold node) (cell.waiting ++ waits before arrival ∷ [])) timers
      (subst (All Above) (sym (map-append (element_hold node) cell.waiting (waits before arrival ∷ [])))
      (All-append Above elements (element_hold node (waits before arrival) ∷ []) (first_part elements timers h) (All-cons Above (element_hold node (waits before arrival)) [] own (All-nil Above))))
      (second_part elements timers h)

  in_above : (arrival : Arrival) (cells : List KeyCell) → All CellAbove cells → All CellAbove (place_in before arrival cells)
  in_above arrival [] h =
      All-cons CellAbove (with_waiting (fresh_cell arrival) (waits before arrival)) [] (waiting_above arrival (fresh_cell arrival) refl (All-nil Above)) h
  in_above arrival (cell ∷ cells) h =
      let first = All-head CellAbove cell cells h in
      let rest = All-tail CellAbove cell cells h in
      cond_both (belongs arrival cell) (with_waiting cell (waits before arrival) ∷ cells) (cell ∷ place_in before arrival cells) (All CellAbove)
      (λ e. All-cons CellAbove (with_waiting cell (waits before arrival)) cells (waiting_above arrival cell (belongs_keyed arrival cell e).2 first) rest)
      (λ e. All-cons CellAbove cell (place_in before arrival cells) first (in_above arrival cells rest))

  all_above : (plan : Plan) (arrivals : List Arrival) (cells : List KeyCell) → All CellAbove cells → All CellAbove (place_all plan before arrivals cells)
  all_above plan [] cells h = h
  all_above plan (arrival ∷ arrivals) cells h =
      all_above plan arrivals (place_one plan before cells arrival) (cond_both (is_stateful plan arrival.node) (place_in before arrival cells) cells (All CellAbove) (λ _. in_above arrival cells h) (λ _. h))

  pub place_above : (plan : Plan) (done : Option Done) (arrivals : List Arrival) (cells : List KeyCell)
      → AreAbove before (key_holds cells) → AreAbove before (key_holds (place plan before done arrivals cells))
  place_above plan done arrivals cells h =
      all_flat (place plan before done arrivals cells) (all_above plan arrivals (finish before done cells) (flat_all (finish before done cells) (finish_above done cells h)))
