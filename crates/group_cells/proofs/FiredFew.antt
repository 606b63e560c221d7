-- A commit fires at most one pane a cell, and makes at most one cell an arrival.
use Rattle.std.proofs.Common.{◌≡◌, ℕ, ◌+◌, ◌==◌, ◌≤◌, ℤ, Bool, true, false, cond, List, [], ◌∷◌, ◌++◌, map, length, refl, sym, ap, ◌∙◌, arith, ltb, length-append}
use Rattle.std.specs.Prelude.{not, suc, ◌&&◌, Option, Some, None}
use Rattle.std.specs.List.{count_by, filter, list_any, flat_map}
use Rattle.std.proofs.lemmas.Bool.Decides.{nat_tests}
use Rattle.std.proofs.lemmas.List.{length-map}
use Rattle.std.proofs.lemmas.List.Sums.{count_by-le-length, sum_by-cons}
use Rattle.beam_values.proofs.Bags.{sum_by-map}
use Rattle.beam_values.specs.Grouping.{key_of}
use Rattle.beam_values.specs.Intervals.{Interval}
use Rattle.beam_values.specs.declared.arrival.Arrival.{Arrival}
use Rattle.beam_values.specs.declared.cell.Cell.{Cell}
use Rattle.beam_values.specs.declared.cell.Entry.{Entry}
use Rattle.beam_values.specs.declared.cell.Pane.{Pane}
use Rattle.beam_values.specs.declared.element.Timing.{Timing}
use Rattle.beam_values.specs.declared.marks.StageMarks.{StageMarks}
use Rattle.beam_values.specs.declared.plan.Plan.{Plan}
use Rattle.beam_values.specs.declared.value.Value.{Value}
use Rattle.beam_model.specs.Panes.{GroupRules, Taken, IsFiredAs, rules_of, taken_entry}
use Rattle.cell_index.specs.Places.{is_cell_of}
use Rattle.group_cells.specs.Arrivals.{arrived, merging, with_arrival, with_arrivals}
use Rattle.group_cells.specs.Cells.{entries_held, firing_of}
use Rattle.group_cells.specs.Commits.{CellPlace, cell_place, elements_keyed, is_taken}
use Rattle.group_cells.specs.Placing.{Opening, fresh_cell, with_entry}
use Rattle.group_cells.specs.Plain.{AreFired, AreNodesFired, handed_over_at, is_arrival_at, once_opened_at, opened_all_at, opened_at, put_all_at, put_at, stands_at, takes_at}
use Rattle.group_cells.specs.Rounds.{entry_of}

-- ---- panes

abbrev pub is_at : ℕ → Cell → Bool
is_at node cell = cell.node == node

abbrev pub is_below : ℕ → Cell → Bool
is_below bound cell = ltb cell.node bound

counted_cons : (p : Cell → Bool) (x : Cell) (xs : List Cell) → count_by p (x ∷ xs) ≡ cond (p x) 1 0 + count_by p xs
counted_cons p x xs = sum_by-cons (λ (y : Cell). cond {A = ℕ} (p y) 1 0) x xs

-- a cell fires at most one pane
one_fired : (node : ℕ) (key : Value) (c : ℕ) (w : Interval) (index : ℕ) (es : List Taken) (t : Option Timing) (b : Bool) (here : List Pane) → IsFiredAs node key c w index es (cond b t None) here
    → length here ≤ cond b 1 0
one_fired node key c w index es t false here f = omega (arith, ap length f)
one_fired node key c w index es None true here f = omega (arith, ap length f)
one_fired node key c w index es (Some timing) true here f = omega (arith, ap length f.1)

pub few_here : (rules : GroupRules) (node c : ℕ) (mark : ℤ) (cells : List Cell) (panes : List Pane) → AreFired rules node c mark cells panes → length panes ≤ count_by (is_at node) cells
few_here rules node c mark [] panes f = omega (arith, ap length f)
few_here rules node c mark (x ∷ xs) panes f =
    let parts : length panes ≡ length f.0 + length f.1 = ap length f.2 ∙ length-append f.0 f.1 in
    omega (
      arith,
      parts,
      few_here rules node c mark xs f.1 f.4,
      counted_cons (is_at node) x xs,
      one_fired x.node x.key c x.span x.next_index (map (taken_entry x.node) (entries_held rules.trigger.mode x.entries)) (firing_of rules mark x) (x.node == node) f.0 f.3,
    )

one_below : (m n : ℕ) → cond {A = ℕ} (ltb m n) 1 0 + cond {A = ℕ} (m == n) 1 0 ≡ cond {A = ℕ} (ltb m (n + 1)) 1 0
one_below m n = grind (arith, nat_tests)

pub below_more : (n : ℕ) (cells : List Cell) → count_by (is_below n) cells + count_by (is_at n) cells ≡ count_by (is_below (n + 1)) cells
below_more n [] = refl
below_more n (x ∷ xs) =
    omega (arith, counted_cons (is_below n) x xs, counted_cons (is_at n) x xs, counted_cons (is_below (n + 1)) x xs, below_more n xs, one_below x.node n)

-- as many cells of a node stand where their places are the same
pub at_kept : (n : ℕ) (cells new : List Cell) → map cell_place new ≡ map cell_place cells → count_by (is_at n) new ≡ count_by (is_at n) cells
at_kept n cells new places =
    let weight : CellPlace → ℕ = λ p. cond (p.node == n) 1 0 in
    let P = sum_by-map weight cell_place in
    sym (P new) ∙ ap (λ l. count_by (λ (p : CellPlace). p.node == n) l) places ∙ P cells

pub few_all : (bound : ℕ) (cells : List Cell) → count_by (is_below bound) cells ≤ length cells
few_all bound cells = count_by-le-length (is_below bound) cells

-- ---- cells

arrived_few : (node : ℕ) (key : Value) (w : Interval) (entry : Entry) (cells : List Cell) → length (arrived node key w entry cells) ≤ length cells + 1
arrived_few node key w entry [] = omega arith
arrived_few node key w entry (x ∷ xs) = by (is_cell_of node key w x) (arrived_few node key w entry xs)
  where
    by : (b : Bool) → length (arrived node key w entry xs) ≤ length xs + 1 → length (cond b (with_entry entry x ∷ xs) (x ∷ arrived node key w entry xs)) ≤ length (x ∷ xs) + 1
    by true h = omega arith
    by false h = omega arith

one_more : (last_ later all_later one old more : ℕ) → last_ + later ≤ one + more → one + all_later ≤ old + later + 1 → last_ + all_later ≤ old + (suc more)
one_more last_ later all_later one old more h k = omega (arith, h, k)

-- a new cell for each arrival at most, where those whose windows merge are yet to come
pub arrivals_few : (plan : Plan) (before : List StageMarks) (c : ℕ) (arrivals : List Arrival) (cells : List Cell)
    → length (with_arrivals plan before c cells arrivals) + length (filter (merging plan before) arrivals) ≤ length cells + length arrivals
arrivals_few plan before c [] cells = omega arith
arrivals_few plan before c (a ∷ arrivals) cells =
    one_more (length (with_arrivals plan before c (with_arrival plan before c cells a) arrivals)) (length (filter (merging plan before) arrivals)) (length (filter (merging plan before) (a ∷ arrivals)))
    (length (with_arrival plan before c cells a)) (length cells) (length arrivals)
    (arrivals_few plan before c arrivals (with_arrival plan before c cells a)) (at (is_taken plan before a) ((rules_of plan a.node).merges))
  where
    here : List Cell
    here = arrived a.node (key_of a.element) a.element.span (entry_of c a.element) cells

    rest : List Arrival
    rest = filter (merging plan before) arrivals

    at : (t m : Bool) → length (cond t (cond m cells here) cells) + length (cond (t && m) (a ∷ rest) rest) ≤ length cells + length rest + 1
    at true true = omega arith
    at true false = omega (arith, arrived_few a.node (key_of a.element) a.element.span (entry_of c a.element) cells)
    at false m = omega arith

opened_few : (rules : GroupRules) (before : ℤ) (node : ℕ) (cells : List Cell) (o : Opening) → length (opened_at rules before node cells o) ≤ length cells + 1
opened_few rules before node cells o = by (list_any (stands_at node o.key o.span) cells) (fresh_cell node o.key o.span (flat_map (handed_over_at rules before node o) cells))
  where
    by : (b : Bool) (x : Cell) → length (cond b cells (map (once_opened_at rules before node o) cells ++ x ∷ [])) ≤ length cells + 1
    by true x = omega arith
    by false x = omega (arith, length-append (map (once_opened_at rules before node o) cells) (x ∷ []), length-map cells (once_opened_at rules before node o))

pub all_opened_few : (rules : GroupRules) (before : ℤ) (node : ℕ) (os : List Opening) (cells : List Cell) → length (opened_all_at rules before node os cells) ≤ length cells + length os
all_opened_few rules before node [] cells = omega arith
all_opened_few rules before node (o ∷ os) cells =
    omega (arith, all_opened_few rules before node os (opened_at rules before node cells o), opened_few rules before node cells o)

put_few : (rules : GroupRules) (node : ℕ) (key : Value) (entry : Entry) (cells : List Cell) → length (put_at rules node key entry cells) ≡ length cells
put_few rules node key entry [] = refl
put_few rules node key entry (x ∷ xs) = by (takes_at rules node key entry x) (put_few rules node key entry xs)
  where
    by : (b : Bool) → length (put_at rules node key entry xs) ≡ length xs → length (cond b (with_entry entry x ∷ xs) (x ∷ put_at rules node key entry xs)) ≡ length (x ∷ xs)
    by true h = refl
    by false h = omega (arith, h)

pub all_put_few : (rules : GroupRules) (node : ℕ) (key : Value) (entries : List Entry) (cells : List Cell) → length (put_all_at rules node key entries cells) ≡ length cells
all_put_few rules node key [] cells = refl
all_put_few rules node key (entry ∷ entries) cells = all_put_few rules node key entries (put_at rules node key entry cells) ∙ put_few rules node key entry cells

-- those of a key and the others are all
pub parted : (node : ℕ) (key : Value) (left : List Arrival) → length (elements_keyed node key left) + length (filter (λ arrival. not (is_arrival_at node key arrival)) left) ≡ length left
parted node key [] = refl
parted node key (a ∷ left) = by (is_arrival_at node key a) (parted node key left)
  where
    by : (b : Bool) → length (elements_keyed node key left) + length (filter (λ arrival. not (is_arrival_at node key arrival)) left) ≡ length left
        → length (map (λ (x : Arrival). x.element) (cond b (a ∷ filter (is_arrival_at node key) left) (filter (is_arrival_at node key) left)))
        + length (cond (not b) (a ∷ filter (λ arrival. not (is_arrival_at node key arrival)) left) (filter (λ arrival. not (is_arrival_at node key arrival)) left)) ≡ length (a ∷ left)
    by true h = omega (arith, h)
    by false h = omega (arith, h)

pub same_length : (cells new : List Cell) → map cell_place new ≡ map cell_place cells → length new ≡ length cells
same_length cells new places = sym (length-map new cell_place) ∙ ap length places ∙ length-map cells cell_place

-- the cells before them and the arrivals bound the panes of a commit
pub commit_few : (plan : Plan) (before : List StageMarks) (hold : ℕ → ℤ) (c : ℕ) (placed new : List Cell) (marks : List StageMarks) (fired : List Pane) (bound : ℕ)
    → AreNodesFired plan before hold c placed new marks fired → length new ≤ bound → length fired ≤ bound
commit_few plan before hold c placed new marks fired bound h most = omega (arith, h.few, same_length placed new h.places, most)
