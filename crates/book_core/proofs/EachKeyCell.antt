-- What a take, a fail and a commit leave of key cells: a fact of each, and what all of them weigh together.
use Rattle.std.proofs.Common.{◌≡◌, ℕ, ◌+◌, true, List, [], ◌∷◌, refl, ap, ◌∙◌, arith}
use Rattle.std.specs.Prelude.{Option, Some, None, slice_get}
use Rattle.std.specs.List.{All, sum_by}
use Rattle.std.proofs.lemmas.Bool.{cond_both}
use Rattle.std.proofs.lemmas.List.Elements.{All-nil, All-cons, All-head, All-tail, All-set}
use Rattle.std.proofs.lemmas.List.Sums.{sum_by-cons}
use Rattle.beam_values.specs.Nodes.{is_stateful}
use Rattle.beam_values.specs.declared.arrival.Arrival.{Arrival}
use Rattle.beam_values.specs.declared.marks.StageMarks.{StageMarks}
use Rattle.beam_values.specs.declared.plan.Plan.{Plan}
use Rattle.stateful_core.specs.Cells.{KeyCell, belongs}
use Rattle.stateful_core.specs.Placing.{Done, finish, fresh_cell, place, place_all, place_in, place_one, set_done, waits, with_done, with_waiting}
use Rattle.stateful_core.specs.Taking.{change, set_by}
use Rattle.stateful_core.specs.declared.waiting.Waiting.{Waiting}
use Rattle.book_core.proofs.Slots.{All-slice_get, set_weighs}

-- ---- a take and a fail

pub change_each : (P : KeyCell → Type 0) (f : KeyCell → KeyCell) (at : ℕ) (cells : List KeyCell) → ((cell : KeyCell) → slice_get cells at ≡ Some cell → P cell → P (f cell))
    → All P cells → All P (change f at cells)
change_each P f at cells keeps h = by (slice_get cells at) refl
  where
    by : (found : Option KeyCell) → slice_get cells at ≡ found → All P (set_by f found at cells)
    by None e = h
    by (Some cell) e = All-set P cells at (f cell) (keeps cell e (All-slice_get P cells at cell e h)) h

pub changed_weighs : (w : KeyCell → ℕ) (f : KeyCell → KeyCell) (at : ℕ) (cells : List KeyCell) (cell : KeyCell) → slice_get cells at ≡ Some cell
    → sum_by w (change f at cells) + w cell ≡ sum_by w cells + w (f cell)
changed_weighs w f at cells cell e =
    let found : sum_by w (change f at cells) ≡ sum_by w (set_by f (Some cell) at cells) = ap (λ (o : Option KeyCell). sum_by w (set_by f o at cells)) e in
    omega (arith, found, set_weighs w cells at cell (f cell) e)

-- ---- a commit

module _ (P : KeyCell → Type 0) (plan : Plan) (before : List StageMarks) (joins : (cell : KeyCell) (waiting : Waiting) → P cell → P (with_waiting cell waiting))
    (opens : (arrival : Arrival) → P (fresh_cell arrival)) where
  in_each : (arrival : Arrival) (cells : List KeyCell) → All P cells → All P (place_in before arrival cells)
  in_each arrival [] h =
      All-cons P (with_waiting (fresh_cell arrival) (waits before arrival)) [] (joins (fresh_cell arrival) (waits before arrival) (opens arrival)) (All-nil P)
  in_each arrival (cell ∷ cells) h =
      let first = All-head P cell cells h in
      let rest = All-tail P cell cells h in
      cond_both (belongs arrival cell) (with_waiting cell (waits before arrival) ∷ cells) (cell ∷ place_in before arrival cells) (All P)
      (λ e. All-cons P (with_waiting cell (waits before arrival)) cells (joins cell (waits before arrival) first) rest)
      (λ e. All-cons P cell (place_in before arrival cells) first (in_each arrival cells rest))

  all_each : (arrivals : List Arrival) (cells : List KeyCell) → All P cells → All P (place_all plan before arrivals cells)
  all_each [] cells h = h
  all_each (arrival ∷ arrivals) cells h =
      all_each arrivals (place_one plan before cells arrival)
      (cond_both (is_stateful plan arrival.node) (place_in before arrival cells) cells (All P) (λ e. in_each arrival cells h) (λ e. h))

  pub place_each : ((done : Done) (cell : KeyCell) → P cell → P (with_done before done cell)) → (done : Option Done) (arrivals : List Arrival) (cells : List KeyCell)
      → All P cells → All P (place plan before done arrivals cells)
  place_each ends done arrivals cells h = all_each arrivals (finish before done cells) (finished done)
    where
      by : (done : Done) (found : Option KeyCell) → slice_get cells done.cell ≡ found → All P (set_done before done found cells)
      by done None e = h
      by done (Some cell) e = All-set P cells done.cell (with_done before done cell) (ends done cell (All-slice_get P cells done.cell cell e h)) h

      finished : (done : Option Done) → All P (finish before done cells)
      finished None = h
      finished (Some done) = by done (slice_get cells done.cell) refl

module _ (w : KeyCell → ℕ) (plan : Plan) (before : List StageMarks) where
  -- what arrives leaves what its cell weighs
  pub record IsWeightless (arrival : Arrival) : Type 0 where
    pub joins : (cell : KeyCell) → belongs arrival cell ≡ true → w (with_waiting cell (waits before arrival)) ≡ w cell
    pub opens : w (with_waiting (fresh_cell arrival) (waits before arrival)) ≡ 0

  in_weighs : (arrival : Arrival) → IsWeightless arrival → (cells : List KeyCell) → sum_by w (place_in before arrival cells) ≡ sum_by w cells
  in_weighs arrival none [] = omega (arith, sum_by-cons w (with_waiting (fresh_cell arrival) (waits before arrival)) [], none.opens)
  in_weighs arrival none (cell ∷ cells) =
      cond_both (belongs arrival cell) (with_waiting cell (waits before arrival) ∷ cells) (cell ∷ place_in before arrival cells)
      (λ (l : List KeyCell). sum_by w l ≡ sum_by w (cell ∷ cells))
      (λ e. omega (arith, sum_by-cons w (with_waiting cell (waits before arrival)) cells, sum_by-cons w cell cells, none.joins cell e))
      (λ e. omega (arith, sum_by-cons w cell (place_in before arrival cells), sum_by-cons w cell cells, in_weighs arrival none cells))

  pub all_weigh : (arrivals : List Arrival) → All IsWeightless arrivals → (cells : List KeyCell) → sum_by w (place_all plan before arrivals cells) ≡ sum_by w cells
  all_weigh [] none cells = refl
  all_weigh (arrival ∷ arrivals) none cells =
      all_weigh arrivals (All-tail IsWeightless arrival arrivals none) (place_one plan before cells arrival)
      ∙ cond_both (is_stateful plan arrival.node) (place_in before arrival cells) cells (λ (l : List KeyCell). sum_by w l ≡ sum_by w cells)
      (λ e. in_weighs arrival (All-head IsWeightless arrival arrivals none) cells) (λ e. refl)

  pub done_weighs : (done : Done) (arrivals : List Arrival) (cells : List KeyCell) (cell : KeyCell) → All IsWeightless arrivals → slice_get cells done.cell ≡ Some cell
      → sum_by w (place plan before (Some done) arrivals cells) + w cell ≡ sum_by w cells + w (with_done before done cell)
  done_weighs done arrivals cells cell none e =
      let found : sum_by w (finish before (Some done) cells) ≡ sum_by w (set_done before done (Some cell) cells) = ap (λ (o : Option KeyCell). sum_by w (set_done before done o cells)) e in
      omega (arith, all_weigh arrivals none (finish before (Some done) cells), found, set_weighs w cells done.cell cell (with_done before done cell) e)
