-- What is known of a book's key cells: their nodes lie in the plan, and how many cells and elements a commit leaves.
use Rattle.std.proofs.Common.{◌≡◌, ℕ, suc, ◌+◌, ◌≤◌, ◌<◌, ℤ, Bool, true, false, cond, List, [], ◌∷◌, ◌++◌, length, map, refl, sym, ◌∙◌, length-append, arith}
use Rattle.std.specs.Prelude.{Option, Some, None, ◌==◌, count_by}
use Rattle.std.specs.List.{All, filter, flat_map}
use Rattle.std.proofs.lemmas.Bool.Decides.{nat_tests}
use Rattle.std.proofs.lemmas.List.Elements.{All-nil, All-cons, All-head, All-tail, All-append, All-filter, All-map, All-weaker}
use Rattle.std.proofs.lemmas.List.Sums.{sum_by-cons}
use Rattle.beam_values.specs.Nodes.{is_stateful}
use Rattle.beam_values.specs.declared.arrival.Arrival.{Arrival}
use Rattle.beam_values.specs.declared.marks.CommitMarks.{CommitMarks}
use Rattle.beam_values.specs.declared.marks.StageMarks.{StageMarks}
use Rattle.beam_values.specs.declared.plan.Plan.{Plan}
use Rattle.beam_values.proofs.Bags.{bag_swap, bag_trans}
use Rattle.beam_model.specs.Holds.{Hold, arrival_hold, least_hold}
use Rattle.stateful_core.specs.Cells.{KeyCell, belongs, cell_holds, element_hold, key_holds, timer_hold}
use Rattle.stateful_core.specs.Facts.{AreKeysSane, IsCellSane}
use Rattle.stateful_core.specs.Placing.{fresh_cell, place_all, place_in, place_one, waits, with_waiting}
use Rattle.stateful_core.specs.declared.waiting.Waiting.{Waiting}
use Rattle.stateful_core.specs.Lasting.{arrival_holds}
use Rattle.stateful_core.proofs.HoldsKept.{place_holds_bag}
use Rattle.stateful_core.proofs.OfSane.{cell_stateful, cell_within}
use Rattle.book_core.specs.Book.{SeenBook, waiting_in}
use Rattle.book_core.proofs.HoldBags.{least_of_bag}
use Rattle.book_core.proofs.LeastHolds.{least_without}

abbrev pub KeysSane : SeenBook → Type 0
KeysSane b = AreKeysSane b.plan b.commits b.keys

-- ---- nodes

pub cells_within : (plan : Plan) (commits : List CommitMarks) (cells : List KeyCell) → AreKeysSane plan commits cells → All (λ cell. cell.log.node < length plan.nodes) cells
cells_within plan commits cells h =
    All-weaker (IsCellSane plan commits) (λ cell. cell.log.node < length plan.nodes) (λ cell k. cell_within plan commits cell k) cells h.each

pub keys_within : (b : SeenBook) → KeysSane b → All (λ cell. cell.log.node < length b.plan.nodes) b.keys
keys_within b h = cells_within b.plan b.commits b.keys h

-- what holds of the nodes of cells holds of the nodes that they hold back
module _ (P : ℕ → Type 0) where
  elements_at : (node : ℕ) → P node → (waiting : List Waiting) → All (λ (hold : Hold). P hold.node) (map (element_hold node) waiting)
  elements_at node here [] = All-nil (λ (hold : Hold). P hold.node)
  elements_at node here (w ∷ ws) = All-cons (λ (hold : Hold). P hold.node) (element_hold node w) (map (element_hold node) ws) here (elements_at node here ws)

  timers_at : (node : ℕ) → P node → (timers : List (Option ℤ)) → All (λ (hold : Hold). P hold.node) (flat_map (timer_hold node) timers)
  timers_at node here [] = All-nil (λ (hold : Hold). P hold.node)
  timers_at node here (None ∷ ts) = timers_at node here ts
  timers_at node here (Some mark ∷ ts) = All-cons (λ (hold : Hold). P hold.node) (record { node = node; mark = mark }) (flat_map (timer_hold node) ts) here (timers_at node here ts)

  pub holds_at : (cells : List KeyCell) → All (λ cell. P cell.log.node) cells → All (λ hold. P hold.node) (key_holds cells)
  holds_at [] h = All-nil (λ (hold : Hold). P hold.node)
  holds_at (cell ∷ cells) h =
      let here = All-head (λ (c : KeyCell). P c.log.node) cell cells h in
      All-append (λ (hold : Hold). P hold.node) (cell_holds cell) (key_holds cells)
      (All-append (λ (hold : Hold). P hold.node) (map (element_hold cell.log.node) cell.waiting) (flat_map (timer_hold cell.log.node) cell.timer_holds)
      (elements_at cell.log.node here cell.waiting) (timers_at cell.log.node here cell.timer_holds))
      (holds_at cells (All-tail (λ (c : KeyCell). P c.log.node) cell cells h))

pub holds_within : (many : ℕ) (cells : List KeyCell) → All (λ cell. cell.log.node < many) cells → All (λ hold. hold.node < many) (key_holds cells)
holds_within many cells h = holds_at (λ node. node < many) cells h

-- a plan without Stateful nodes has no key cells
pub none_keyed : (plan : Plan) (commits : List CommitMarks) (cells : List KeyCell) → ((n : ℕ) → is_stateful plan n ≡ false) → AreKeysSane plan commits cells → cells ≡ []
none_keyed plan commits [] none h = refl
none_keyed plan commits (cell ∷ cells) none h =
    let kept = All-head (IsCellSane plan commits) cell cells h.each in
    let no : true ≡ false = sym (cell_stateful plan commits cell kept) ∙ none cell.log.node in
    absurd (cc)

-- ---- how many cells and elements there are

module _ (before : List StageMarks) (arrival : Arrival) where
  in_many : (cells : List KeyCell) → length (place_in before arrival cells) ≤ length cells + 1
  in_many [] = omega arith
  in_many (cell ∷ cells) = by (belongs arrival cell) (in_many cells)
    where
      by : (t : Bool) → length (place_in before arrival cells) ≤ length cells + 1
          → length (cond t (with_waiting cell (waits before arrival) ∷ cells) (cell ∷ place_in before arrival cells)) ≤ suc (length cells) + 1
      by true h = omega arith
      by false h = omega (arith, h)

  one_longer : (cell : KeyCell) → length (with_waiting cell (waits before arrival)).waiting ≡ length cell.waiting + 1
  one_longer cell = length-append cell.waiting (waits before arrival ∷ [])

  in_waiting : (cells : List KeyCell) → waiting_in (place_in before arrival cells) ≡ waiting_in cells + 1
  in_waiting [] = omega (arith, sum_by-cons (λ (cell : KeyCell). length cell.waiting) (with_waiting (fresh_cell arrival) (waits before arrival)) [], one_longer (fresh_cell arrival))
  in_waiting (cell ∷ cells) = by (belongs arrival cell) (in_waiting cells)
    where
      by : (t : Bool) → waiting_in (place_in before arrival cells) ≡ waiting_in cells + 1
          → waiting_in (cond t (with_waiting cell (waits before arrival) ∷ cells) (cell ∷ place_in before arrival cells)) ≡ waiting_in (cell ∷ cells) + 1
      by true h =
          omega (
            arith,
            sum_by-cons (λ (c : KeyCell). length c.waiting) (with_waiting cell (waits before arrival)) cells,
            sum_by-cons (λ (c : KeyCell). length c.waiting) cell cells,
            one_longer cell,
          )
      by false h =
          omega (
            arith,
            h,
            sum_by-cons (λ (c : KeyCell). length c.waiting) cell (place_in before arrival cells),
            sum_by-cons (λ (c : KeyCell). length c.waiting) cell cells,
          )

module _ (plan : Plan) (before : List StageMarks) where
  one_many : (arrival : Arrival) (cells : List KeyCell) → length (place_one plan before cells arrival) ≤ length cells + 1
  one_many arrival cells = by (is_stateful plan arrival.node)
    where
      by : (t : Bool) → length (cond t (place_in before arrival cells) cells) ≤ length cells + 1
      by true = in_many before arrival cells
      by false = omega arith

  pub all_many : (arrivals : List Arrival) (cells : List KeyCell) → length (place_all plan before arrivals cells) ≤ length cells + length arrivals
  all_many [] cells = omega arith
  all_many (arrival ∷ arrivals) cells = omega (arith, all_many arrivals (place_one plan before cells arrival), one_many arrival cells)

  one_waiting : (arrival : Arrival) (cells : List KeyCell) → waiting_in (place_one plan before cells arrival) ≡ waiting_in cells + cond (is_stateful plan arrival.node) 1 0
  one_waiting arrival cells = by (is_stateful plan arrival.node)
    where
      by : (t : Bool) → waiting_in (cond t (place_in before arrival cells) cells) ≡ waiting_in cells + cond t 1 0
      by true = in_waiting before arrival cells
      by false = omega arith

  pub all_waiting : (arrivals : List Arrival) (cells : List KeyCell)
      → waiting_in (place_all plan before arrivals cells) ≡ waiting_in cells + count_by (λ a. is_stateful plan a.node) arrivals
  all_waiting [] cells = omega arith
  all_waiting (arrival ∷ arrivals) cells =
      omega (
        arith,
        all_waiting arrivals (place_one plan before cells arrival),
        one_waiting arrival cells,
        sum_by-cons (λ (a : Arrival). cond (is_stateful plan a.node) 1 0) arrival arrivals,
      )

pub few_counted : {X : Type 0} (p : X → Bool) (xs : List X) → count_by p xs ≤ length xs
few_counted p [] = omega arith
few_counted p (x ∷ xs) = by (p x) (sum_by-cons (λ y. cond (p y) 1 0) x xs) (few_counted p xs)
  where
    by : (t : Bool) → count_by p (x ∷ xs) ≡ cond t 1 0 + count_by p xs → count_by p xs ≤ length xs → count_by p (x ∷ xs) ≤ suc (length xs)
    by true e h = omega (arith, e, h)
    by false e h = omega (arith, e, h)

-- ---- where nothing comes

-- a node to which nothing comes is held by key cells as before
pub keys_elsewhere : (plan : Plan) (before : List StageMarks) (arrivals : List Arrival) (cells : List KeyCell) (m : ℕ) → All (λ (a : Arrival). a.node ≡ m → ⊥) arrivals
    → least_hold (key_holds (place_all plan before arrivals cells)) m ≡ least_hold (key_holds cells) m
keys_elsewhere plan before arrivals cells m none =
    let more = arrival_holds plan before arrivals in
    least_of_bag (key_holds (place_all plan before arrivals cells)) (more ++ key_holds cells)
    (bag_trans (key_holds (place_all plan before arrivals cells)) (key_holds cells ++ more) (more ++ key_holds cells) (place_holds_bag plan before arrivals cells) (bag_swap (key_holds cells) more)) m
    ∙ least_without more (key_holds cells) m
    (All-map (λ (h : Hold). (h.node == m) ≡ false) (arrival_hold before) (filter (λ a. is_stateful plan a.node) arrivals)
    (All-filter (λ a. is_stateful plan a.node) (λ (a : Arrival). (a.node == m) ≡ false) arrivals
    (All-weaker (λ (a : Arrival). a.node ≡ m → ⊥) (λ (a : Arrival). (a.node == m) ≡ false) (λ a other. differs a.node m other) arrivals none)))
  where
    differs : (a b : ℕ) → (a ≡ b → ⊥) → (a == b) ≡ false
    differs a b other = grind (arith, nat_tests)

-- ---- as they are kept
