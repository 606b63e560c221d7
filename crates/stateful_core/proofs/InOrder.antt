-- Over a whole commit: what came to each key and window, in order.
use Rattle.std.proofs.Common.{◌≡◌, ℕ, ◌≤◌, Bool, true, false, cond, List, [], ◌∷◌, ◌++◌, map, Option, refl, sym, ap, ◌∙◌, arith, append_assoc}
use Rattle.std.specs.Prelude.{◌&&◌}
use Rattle.std.specs.List.{count_by, flat_map, filter}
use Rattle.std.proofs.lemmas.Bool.{cond_both}
use Rattle.std.proofs.lemmas.List.{append-nil}
use Rattle.std.proofs.lemmas.List.Sums.{sum_by-cons}
use Rattle.beam_values.specs.Intervals.{Interval}
use Rattle.beam_values.specs.Nodes.{is_stateful}
use Rattle.beam_values.specs.declared.arrival.Arrival.{Arrival}
use Rattle.beam_values.specs.declared.log.KeyLog.{KeyLog}
use Rattle.beam_values.specs.declared.marks.StageMarks.{StageMarks}
use Rattle.beam_values.specs.declared.plan.Plan.{Plan}
use Rattle.beam_values.specs.declared.value.Value.{Value}
use Rattle.beam_model.specs.Logs.{is_log_of}
use Rattle.stateful_core.specs.Cells.{KeyCell, logs_of, cell_arrivals}
use Rattle.stateful_core.specs.Facts.{AreDoneOf, came_to, of_key, is_of}
use Rattle.stateful_core.specs.Placing.{Done, place_in, place_one, place_all, finish, place}
use Rattle.stateful_core.proofs.Came.{Came, came, finish_came, in_others, in_own}
use Rattle.stateful_core.proofs.OnceOnly.{once_more}

module _ (plan : Plan) (before : List StageMarks) (node : ℕ) (key : Value) (span : Interval) where
  abbrev comes : Arrival → Bool
  comes arrival = is_stateful plan arrival.node && is_of node key span arrival

  abbrev once : List KeyCell → Type 0
  once cells = count_by (is_log_of node key span) (logs_of cells) ≤ 1

  one_once : (arrival : Arrival) (cells : List KeyCell) → once cells → once (place_one plan before cells arrival)
  one_once arrival cells h =
      cond_both (is_stateful plan arrival.node) (place_in before arrival cells) cells once (λ _. once_more before arrival node key span cells h) (λ _. h)

  one_in_order : (arrival : Arrival) (cells : List KeyCell) → once cells
      → came_to node key span (place_one plan before cells arrival) ≡ came_to node key span cells ++ cond (comes arrival) (arrival ∷ []) []
  one_in_order arrival cells h = by (is_stateful plan arrival.node) (is_of node key span arrival) refl
    where
      by : (s b : Bool) → is_of node key span arrival ≡ b
          → came_to node key span (cond s (place_in before arrival cells) cells) ≡ came_to node key span cells ++ cond (s && b) (arrival ∷ []) []
      by true true e = in_own before arrival node key span cells e h
      by true false e = in_others before arrival node key span cells e ∙ sym (append-nil (came_to node key span cells))
      by false b e = sym (append-nil (came_to node key span cells))

  filtered : (arrival : Arrival) (arrivals : List Arrival) → filter comes (arrival ∷ arrivals) ≡ cond (comes arrival) (arrival ∷ []) [] ++ filter comes arrivals
  filtered arrival arrivals = by (comes arrival)
    where
      by : (b : Bool) → cond b (arrival ∷ filter comes arrivals) (filter comes arrivals) ≡ cond b (arrival ∷ []) [] ++ filter comes arrivals
      by true = refl
      by false = refl

  pub all_in_order : (arrivals : List Arrival) (cells : List KeyCell) → once cells
      → came_to node key span (place_all plan before arrivals cells) ≡ came_to node key span cells ++ filter comes arrivals
  all_in_order [] cells h = sym (append-nil (came_to node key span cells))
  all_in_order (arrival ∷ arrivals) cells h =
      all_in_order arrivals (place_one plan before cells arrival) (one_once arrival cells h)
      ∙ ap (λ l. l ++ filter comes arrivals) (one_in_order arrival cells h)
      ∙ append_assoc (came_to node key span cells) (cond (comes arrival) (arrival ∷ []) []) (filter comes arrivals)
      ∙ ap (λ l. came_to node key span cells ++ l) (sym (filtered arrival arrivals))

  -- a cell's place and what came to it tell all of this
  abbrev place_log : Came → KeyLog
  place_log c = record { node = c.log.0; key = c.log.1; span = c.log.2; entries = [] }

  abbrev told_by : List Came → List Arrival
  told_by cs = flat_map (λ (c : Came). c.arrivals) (filter (λ (c : Came). is_log_of node key span (place_log c)) cs)

  from_came : (cells : List KeyCell) → came_to node key span cells ≡ told_by (map came cells)
  from_came [] = refl
  from_came (cell ∷ cells) = by (of_key node key span cell) (from_came cells)
    where
      by : (b : Bool) → came_to node key span cells ≡ told_by (map came cells)
          → flat_map cell_arrivals (cond b (cell ∷ filter (of_key node key span) cells) (filter (of_key node key span) cells))
          ≡ flat_map (λ (c : Came). c.arrivals) (cond b (came cell ∷ filter (λ (c : Came). is_log_of node key span (place_log c)) (map came cells)) (filter (λ (c : Came). is_log_of node key span (place_log c)) (map came cells)))
      by true h = ap (λ l. cell_arrivals cell ++ l) h
      by false h = h

  came_counts : (cells : List KeyCell) → count_by (is_log_of node key span) (logs_of cells) ≡ count_by (λ (c : Came). is_log_of node key span (place_log c)) (map came cells)
  came_counts cells = sum_map cells
    where
      sum_map : (xs : List KeyCell) → count_by (is_log_of node key span) (logs_of xs) ≡ count_by (λ (c : Came). is_log_of node key span (place_log c)) (map came xs)
      sum_map [] = refl
      sum_map (x ∷ xs) =
          omega (
            arith,
            sum_map xs,
            sum_by-cons (λ log. cond (is_log_of node key span log) 1 0) x.log (logs_of xs),
            sum_by-cons (λ (c : Came). cond (is_log_of node key span (place_log c)) 1 0) (came x) (map came xs),
          )

  pub place_in_order : (c : ℕ) (done : Option Done) (arrivals : List Arrival) (cells : List KeyCell) → AreDoneOf plan c cells done → once cells
      → came_to node key span (place plan before done arrivals cells) ≡ came_to node key span cells ++ filter comes arrivals
  place_in_order c done arrivals cells made h =
      let same = finish_came plan c before done cells made in
      let kept : once (finish before done cells) =
      omega (arith, h, came_counts (finish before done cells), came_counts cells, ap (count_by (λ (x : Came). is_log_of node key span (place_log x))) same) in
      all_in_order arrivals (finish before done cells) kept
      ∙ ap (λ l. l ++ filter comes arrivals) (from_came (finish before done cells) ∙ ap told_by same ∙ sym (from_came cells))
