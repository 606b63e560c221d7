-- What came to key cells: the calls of their logs and what waits, each arrival once and in order.
use Rattle.std.proofs.Common.{◌≡◌, ℕ, zero, suc, ◌+◌, ◌≤◌, Bool, true, false, cond, List, [], ◌∷◌, ◌++◌, map, take, drop, Option, Some, None, refl, sym, ap, ◌∙◌, arith, append_assoc}
use Rattle.std.specs.Prelude.{slice_get, slice_set, unwrap_or}
use Rattle.std.specs.List.{count_by, flat_map, filter, sum_by}
use Rattle.std.proofs.lemmas.List.{append-nil, map-append, take-append-drop}
use Rattle.std.proofs.lemmas.List.Concat.{flat_map-append}
use Rattle.std.proofs.lemmas.List.Sums.{sum_by-cons, sum_by-append}
use Rattle.std.proofs.lemmas.Option.{same_Some}
use Rattle.beam_values.specs.Bags.{IsSameBag}
use Rattle.beam_values.specs.Intervals.{Interval}
use Rattle.beam_values.specs.Nodes.{is_stateful}
use Rattle.beam_values.specs.States.{KeptState}
use Rattle.beam_values.specs.declared.arrival.Arrival.{Arrival}
use Rattle.beam_values.specs.declared.log.KeyLog.{KeyLog}
use Rattle.beam_values.specs.declared.log.LogEntry.{LogEntry}
use Rattle.beam_values.specs.declared.log.LogInput.{LogInput}
use Rattle.beam_values.specs.declared.log.Timer.{Timer}
use Rattle.beam_values.specs.declared.marks.StageMarks.{StageMarks}
use Rattle.beam_values.specs.declared.plan.Node.{Node}
use Rattle.beam_values.specs.declared.plan.NodeKind.{NodeKind}
use Rattle.beam_values.specs.declared.plan.NodeKind.TheVariants.{Stateful}
use Rattle.beam_values.specs.declared.plan.Plan.{Plan}
use Rattle.beam_values.specs.declared.value.Value.{Value}
use Rattle.beam_model.specs.Account.{input_arrival, log_arrivals}
use Rattle.beam_model.specs.Logs.{is_log_of}
use Rattle.stateful_core.specs.Cells.{KeyCell, belongs, logs_of, waiting_arrival, cell_arrivals, key_arrivals}
use Rattle.stateful_core.specs.declared.waiting.Waiting.{Waiting}
use Rattle.stateful_core.specs.Facts.{Folded, folded_at, folded_in, AreDoneOf, of_key, came_to, is_of}
use Rattle.stateful_core.specs.Placing.{Done, fresh_cell, waits, with_waiting, place_in, place_one, place_all, with_done, set_done, finish, place}
use Rattle.stateful_core.specs.Taking.{first_timer, timer_inputs, element_inputs, inputs_of}
use Rattle.stateful_core.proofs.Leading.{folded_inputs}
use Rattle.stateful_core.proofs.OnceOnly.{belongs_keyed, of_arrival, not_of_arrival}

-- ---- a job that is done moves what it was on from waiting to the log

element_arrivals : (node : ℕ) (waiting : List Waiting) → flat_map (input_arrival node) (element_inputs waiting) ≡ map (waiting_arrival node) waiting
element_arrivals node [] = refl
element_arrivals node (w ∷ waiting) = ap (λ l. waiting_arrival node w ∷ l) (element_arrivals node waiting)

timer_arrivals : (node : ℕ) (timer : Option Timer) → flat_map (input_arrival node) (timer_inputs timer) ≡ []
timer_arrivals node None = refl
timer_arrivals node (Some timer) = refl

inputs_arrivals : (cell : KeyCell) (count : ℕ) → flat_map (input_arrival cell.log.node) (inputs_of cell count) ≡ map (waiting_arrival cell.log.node) (take count cell.waiting)
inputs_arrivals cell zero = timer_arrivals cell.log.node (first_timer cell.kept.timers)
inputs_arrivals cell (suc n) = element_arrivals cell.log.node (take (suc n) cell.waiting)

over_inputs : (node : ℕ) (entries : List LogEntry) → flat_map (λ entry. input_arrival node entry.input) entries ≡ flat_map (input_arrival node) (map (λ entry. entry.input) entries)
over_inputs node [] = refl
over_inputs node (entry ∷ entries) = ap (λ l. input_arrival node entry.input ++ l) (over_inputs node entries)

at_inputs : (kind : NodeKind) (log : KeyLog) (c : ℕ) (kept : KeptState) (inputs : List LogInput) (all : Folded)
    → folded_at kind log.key log.span c kept inputs ≡ Some all → map (λ entry. entry.input) all.entries ≡ inputs
at_inputs (Stateful work args logged) log c kept inputs all e = folded_inputs [] work args log c inputs kept all e
at_inputs _ log c kept inputs all e = absurd (cc)

pub in_inputs : (found : Option Node) (log : KeyLog) (c : ℕ) (kept : KeptState) (inputs : List LogInput) (all : Folded)
    → folded_in found log.key log.span c kept inputs ≡ Some all → map (λ entry. entry.input) all.entries ≡ inputs
in_inputs (Some node) log c kept inputs all e = at_inputs node.kind log c kept inputs all e
in_inputs None log c kept inputs all e = absurd (cc)

done_came : (before : List StageMarks) (cell : KeyCell) (done : Done) (count : ℕ) → cell.live ≡ Some count → map (λ entry. entry.input) done.entries ≡ inputs_of cell count
    → cell_arrivals (with_done before done cell) ≡ cell_arrivals cell
done_came before cell done count live same =
    let node = cell.log.node in
    let old = log_arrivals cell.log in
    let worked = map (waiting_arrival node) (take count cell.waiting) in
    let rest = map (waiting_arrival node) (drop count cell.waiting) in
    let new : flat_map (λ entry. input_arrival node entry.input) done.entries ≡ worked =
    over_inputs node done.entries ∙ ap (flat_map (input_arrival node)) same ∙ inputs_arrivals cell count in
    let logged : log_arrivals (with_done before done cell).log ≡ old ++ worked =
    flat_map-append (λ entry. input_arrival node entry.input) cell.log.entries done.entries ∙ ap (λ l. old ++ l) new in
    let left : map (waiting_arrival node) (drop (unwrap_or cell.live 0) cell.waiting) ≡ rest =
    ap (λ (o : Option ℕ). map (waiting_arrival node) (drop (unwrap_or o 0) cell.waiting)) live in
    let whole : worked ++ rest ≡ map (waiting_arrival node) cell.waiting =
    sym (map-append (waiting_arrival node) (take count cell.waiting) (drop count cell.waiting)) ∙ ap (map (waiting_arrival node)) (take-append-drop count cell.waiting) in
    ap (λ l. log_arrivals (with_done before done cell).log ++ l) left ∙ ap (λ l. l ++ rest) logged ∙ append_assoc old worked rest ∙ ap (λ l. old ++ l) whole

-- a list with one item in the place of another of which the same is made
pub map_set_same : {X Y : Type 0} (f : X → Y) (xs : List X) (i : ℕ) (x y : X) → slice_get xs i ≡ Some x → f y ≡ f x → map f (slice_set xs i y) ≡ map f xs
map_set_same f [] i x y at same = refl
map_set_same f (z ∷ xs) zero x y at same = ap (λ u. u ∷ map f xs) (same ∙ ap f (sym (same_Some z x at)))
map_set_same f (z ∷ xs) (suc i) x y at same = ap (λ l. f z ∷ l) (map_set_same f xs i x y at same)

-- a cell's place and what came to it
pub record Came : Type 0 where
  pub log : ℕ × Value × Interval
  pub arrivals : List Arrival

abbrev pub came : KeyCell → Came
came cell = record { log = (cell.log.node, cell.log.key, cell.log.span); arrivals = cell_arrivals cell }

pub finish_came : (plan : Plan) (c : ℕ) (before : List StageMarks) (done : Option Done) (cells : List KeyCell) → AreDoneOf plan c cells done
    → map came (finish before done cells) ≡ map came cells
finish_came plan c before None cells made = refl
finish_came plan c before (Some done) cells made =
    let cell = made.cell in
    let inputs = in_inputs (slice_get plan.nodes cell.log.node) cell.log c cell.kept (inputs_of cell made.count) (record { kept = done.kept; entries = done.entries }) made.folds in
    let here : came (with_done before done cell) ≡ came cell =
    ap (λ (l : List Arrival). record { log = (cell.log.node, cell.log.key, cell.log.span); arrivals = l }) (done_came before cell done made.count made.works inputs) in
    ap (λ (found : Option KeyCell). map came (set_done before done found cells)) made.is_at ∙ map_set_same came cells done.cell cell (with_done before done cell) made.is_at here

-- ---- an arrival is one more, behind the others of its key and window

own_arrival : (before : List StageMarks) (arrival : Arrival) (cell : KeyCell) → arrival.node ≡ cell.log.node → waiting_arrival cell.log.node (waits before arrival) ≡ arrival
own_arrival before arrival cell e = ap (λ n. record { node = n; element = arrival.element }) (sym e)

waiting_came : (before : List StageMarks) (arrival : Arrival) (cell : KeyCell) → arrival.node ≡ cell.log.node
    → cell_arrivals (with_waiting cell (waits before arrival)) ≡ cell_arrivals cell ++ arrival ∷ []
waiting_came before arrival cell e =
    ap (λ l. log_arrivals cell.log ++ l) (map-append (waiting_arrival cell.log.node) cell.waiting (waits before arrival ∷ []))
    ∙ ap (λ a. log_arrivals cell.log ++ (map (waiting_arrival cell.log.node) cell.waiting ++ a ∷ [])) (own_arrival before arrival cell e)
    ∙ sym (append_assoc (log_arrivals cell.log) (map (waiting_arrival cell.log.node) cell.waiting) (arrival ∷ []))

fresh_came : (before : List StageMarks) (arrival : Arrival) → cell_arrivals (with_waiting (fresh_cell arrival) (waits before arrival)) ≡ arrival ∷ []
fresh_came before arrival = waiting_came before arrival (fresh_cell arrival) refl

module _ (before : List StageMarks) (arrival : Arrival) where
  in_weighs : (w : Arrival → ℕ) (cells : List KeyCell) → sum_by w (key_arrivals (place_in before arrival cells)) ≡ sum_by w (key_arrivals cells) + w arrival
  in_weighs w [] =
      ap (λ (l : List Arrival). sum_by w (l ++ [])) (fresh_came before arrival) ∙ omega (arith, sum_by-cons w arrival [])
  in_weighs w (cell ∷ cells) = by (belongs arrival cell) refl (in_weighs w cells)
    where
      by : (b : Bool) → belongs arrival cell ≡ b → sum_by w (key_arrivals (place_in before arrival cells)) ≡ sum_by w (key_arrivals cells) + w arrival
          → sum_by w (key_arrivals (cond b (with_waiting cell (waits before arrival) ∷ cells) (cell ∷ place_in before arrival cells))) ≡ sum_by w (cell_arrivals cell ++ key_arrivals cells) + w arrival
      by true e h =
          omega (
            arith,
            sum_by-append w (cell_arrivals (with_waiting cell (waits before arrival))) (key_arrivals cells),
            ap (sum_by w) (waiting_came before arrival cell (belongs_keyed arrival cell e).2),
            sum_by-append w (cell_arrivals cell) (arrival ∷ []),
            sum_by-cons w arrival [],
            sum_by-append w (cell_arrivals cell) (key_arrivals cells),
          )
      by false e h =
          omega (
            arith,
            h,
            sum_by-append w (cell_arrivals cell) (key_arrivals (place_in before arrival cells)),
            sum_by-append w (cell_arrivals cell) (key_arrivals cells),
          )

  pub one_weighs : (plan : Plan) (w : Arrival → ℕ) (cells : List KeyCell)
      → sum_by w (key_arrivals (place_one plan before cells arrival)) ≡ sum_by w (key_arrivals cells) + cond (is_stateful plan arrival.node) (w arrival) 0
  one_weighs plan w cells = by (is_stateful plan arrival.node)
    where
      by : (b : Bool) → sum_by w (key_arrivals (cond b (place_in before arrival cells) cells)) ≡ sum_by w (key_arrivals cells) + cond b (w arrival) 0
      by true = in_weighs w cells
      by false = omega arith

filter_weighs : {X : Type 0} (w : X → ℕ) (p : X → Bool) (x : X) (xs : List X) → sum_by w (filter p (x ∷ xs)) ≡ cond (p x) (w x) 0 + sum_by w (filter p xs)
filter_weighs w p x xs = by (p x)
  where
    by : (b : Bool) → sum_by w (cond b (x ∷ filter p xs) (filter p xs)) ≡ cond b (w x) 0 + sum_by w (filter p xs)
    by true = sum_by-cons w x (filter p xs)
    by false = omega arith

pub all_weigh : (plan : Plan) (before : List StageMarks) (w : Arrival → ℕ) (arrivals : List Arrival) (cells : List KeyCell)
    → sum_by w (key_arrivals (place_all plan before arrivals cells)) ≡ sum_by w (key_arrivals cells) + sum_by w (filter (λ a. is_stateful plan a.node) arrivals)
all_weigh plan before w [] cells = omega arith
all_weigh plan before w (arrival ∷ arrivals) cells =
    omega (
      arith,
      all_weigh plan before w arrivals (place_one plan before cells arrival),
      one_weighs before arrival plan w cells,
      filter_weighs w (λ a. is_stateful plan a.node) arrival arrivals,
    )

came_arrivals : (cells others : List KeyCell) → map came cells ≡ map came others → key_arrivals cells ≡ key_arrivals others
came_arrivals cells others e = from cells ∙ ap (flat_map (λ (c : Came). c.arrivals)) e ∙ sym (from others)
  where
    from : (xs : List KeyCell) → key_arrivals xs ≡ flat_map (λ (c : Came). c.arrivals) (map came xs)
    from [] = refl
    from (x ∷ xs) = ap (λ l. cell_arrivals x ++ l) (from xs)

-- no arrival is lost or comes twice
pub place_bag : (plan : Plan) (c : ℕ) (before : List StageMarks) (done : Option Done) (arrivals : List Arrival) (cells : List KeyCell) → AreDoneOf plan c cells done
    → IsSameBag (key_arrivals (place plan before done arrivals cells)) (key_arrivals cells ++ filter (λ a. is_stateful plan a.node) arrivals)
place_bag plan c before done arrivals cells made = record {
  weighs = λ w. omega (
    arith,
    all_weigh plan before w arrivals (finish before done cells),
    ap (sum_by w) (came_arrivals (finish before done cells) cells (finish_came plan c before done cells made)),
    sum_by-append w (key_arrivals cells) (filter (λ a. is_stateful plan a.node) arrivals),
  );
}

-- ---- in order, of one node, key and window

module _ (before : List StageMarks) (arrival : Arrival) (node : ℕ) (key : Value) (span : Interval) where
  abbrev F : List KeyCell → List Arrival
  F cells = came_to node key span cells

  abbrev more_in : Bool → KeyCell → List KeyCell → List Arrival
  more_in b cell cells = flat_map cell_arrivals (cond b (cell ∷ filter (of_key node key span) cells) (filter (of_key node key span) cells))

  pub in_others : (cells : List KeyCell) → is_of node key span arrival ≡ false → F (place_in before arrival cells) ≡ F cells
  in_others [] off = ap (λ b. flat_map cell_arrivals (cond b (with_waiting (fresh_cell arrival) (waits before arrival) ∷ []) [])) off
  in_others (cell ∷ cells) off = by (belongs arrival cell) refl (in_others cells off)
    where
      by : (b : Bool) → belongs arrival cell ≡ b → F (place_in before arrival cells) ≡ F cells
          → F (cond b (with_waiting cell (waits before arrival) ∷ cells) (cell ∷ place_in before arrival cells)) ≡ F (cell ∷ cells)
      by true e h =
          let not = not_of_arrival node key span arrival cell off e in
          ap (λ b. more_in b (with_waiting cell (waits before arrival)) cells) not ∙ sym (ap (λ b. more_in b cell cells) not)
      by false e h = goes (of_key node key span cell)
        where
          goes : (b : Bool) → more_in b cell (place_in before arrival cells) ≡ more_in b cell cells
          goes true = ap (λ l. cell_arrivals cell ++ l) h
          goes false = h

  none_left : (cells : List KeyCell) → count_by (is_log_of node key span) (logs_of cells) ≤ 0 → F cells ≡ []
  none_left [] h = refl
  none_left (cell ∷ cells) h = by (of_key node key span cell) (sum_by-cons (λ log. cond (is_log_of node key span log) 1 0) cell.log (logs_of cells)) (none_left cells)
    where
      by : (b : Bool) → count_by (is_log_of node key span) (cell.log ∷ logs_of cells) ≡ cond b 1 0 + count_by (is_log_of node key span) (logs_of cells)
          → (count_by (is_log_of node key span) (logs_of cells) ≤ 0 → F cells ≡ []) → more_in b cell cells ≡ []
      by true e k = absurd (omega (arith, e, h))
      by false e k = k (omega (arith, e, h))

  pub in_own : (cells : List KeyCell) → is_of node key span arrival ≡ true → count_by (is_log_of node key span) (logs_of cells) ≤ 1 → F (place_in before arrival cells) ≡ F cells ++ arrival ∷ []
  in_own [] on h = ap (λ b. flat_map cell_arrivals (cond b (with_waiting (fresh_cell arrival) (waits before arrival) ∷ []) [])) on ∙ ap (λ l. l ++ []) (fresh_came before arrival)
  in_own (cell ∷ cells) on h =
      by (belongs arrival cell) refl (sum_by-cons (λ log. cond (is_log_of node key span log) 1 0) cell.log (logs_of cells)) (in_own cells on)
    where
      by : (b : Bool) → belongs arrival cell ≡ b
          → count_by (is_log_of node key span) (cell.log ∷ logs_of cells) ≡ cond (of_key node key span cell) 1 0 + count_by (is_log_of node key span) (logs_of cells)
          → (count_by (is_log_of node key span) (logs_of cells) ≤ 1 → F (place_in before arrival cells) ≡ F cells ++ arrival ∷ [])
          → F (cond b (with_waiting cell (waits before arrival) ∷ cells) (cell ∷ place_in before arrival cells)) ≡ F (cell ∷ cells) ++ arrival ∷ []
      by true e f k =
          let yes : of_key node key span cell ≡ true = of_arrival node key span arrival cell.log on ∙ e in
          let empty = none_left cells (omega (arith, h, f, ap (λ b. cond b 1 0 + 0) yes)) in
          ap (λ b. more_in b (with_waiting cell (waits before arrival)) cells) yes
          ∙ ap (λ l. cell_arrivals (with_waiting cell (waits before arrival)) ++ l) empty
          ∙ append-nil (cell_arrivals (with_waiting cell (waits before arrival)))
          ∙ waiting_came before arrival cell (belongs_keyed arrival cell e).2
          ∙ ap (λ l. l ++ arrival ∷ []) (sym (append-nil (cell_arrivals cell)) ∙ ap (λ l. cell_arrivals cell ++ l) (sym empty) ∙ sym (ap (λ b. more_in b cell cells) yes))
      by false e f k =
          let no : of_key node key span cell ≡ false = of_arrival node key span arrival cell.log on ∙ e in
          ap (λ b. more_in b cell (place_in before arrival cells)) no ∙ k (omega (arith, h, f)) ∙ ap (λ l. l ++ arrival ∷ []) (sym (ap (λ b. more_in b cell cells) no))
