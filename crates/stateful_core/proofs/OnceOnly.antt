-- Which cell an arrival belongs to, and that there is one at most.
use Rattle.std.proofs.Common.{◌≡◌, ℕ, zero, suc, ◌+◌, ◌≤◌, max, Bool, true, false, cond, List, [], ◌∷◌, Some, refl, sym, ap, ◌∙◌, arith}
use Rattle.std.specs.Prelude.{slice_get, slice_set, ◌==◌, ◌&&◌, bytes_eq}
use Rattle.std.specs.Ordering.{int_eq}
use Rattle.std.specs.List.{count_by}
use Rattle.std.proofs.lemmas.Bool.{and_parts, and_from, eqb-true, eq-eqb}
use Rattle.std.proofs.lemmas.Bool.Decides.{Decides-int_eq}
use Rattle.std.proofs.lemmas.Slice.Eq.{bytes_eq-Decides}
use Rattle.std.proofs.lemmas.List.Sums.{sum_by-cons}
use Rattle.beam_values.specs.Grouping.{key_of}
use Rattle.beam_values.specs.Intervals.{Interval}
use Rattle.beam_values.specs.Spans.{same_span}
use Rattle.beam_values.specs.Spelling.{spelling}
use Rattle.beam_values.specs.declared.arrival.Arrival.{Arrival}
use Rattle.beam_values.specs.declared.log.KeyLog.{KeyLog}
use Rattle.beam_values.specs.declared.marks.StageMarks.{StageMarks}
use Rattle.beam_values.specs.declared.value.Value.{Value}
use Rattle.beam_model.specs.Logs.{is_log_of}
use Rattle.beam_model.specs.Sessions.{is_keyed}
use Rattle.stateful_core.specs.Cells.{KeyCell, belongs, logs_of}
use Rattle.stateful_core.specs.Placing.{fresh_cell, waits, with_waiting, place_in}

-- a log is of a node, key and window
pub record IsLogOf (node : ℕ) (key : Value) (span : Interval) (log : KeyLog) : Type 0 where
  pub node_is : log.node ≡ node
  pub key_is : spelling log.key ≡ spelling key
  pub span_is : log.span ≡ span

spans_same : (a b : Interval) → a.start ≡ b.start → a.end ≡ b.end → a ≡ b
spans_same a b e f = λ i. record { start = e i; end = f i }

pub log_told : (node : ℕ) (key : Value) (span : Interval) (log : KeyLog) → is_log_of node key span log ≡ true → IsLogOf node key span log
log_told node key span log h =
    let outer = and_parts (log.node == node && bytes_eq (spelling log.key) (spelling key)) (same_span log.span span) h in
    let inner = and_parts (log.node == node) (bytes_eq (spelling log.key) (spelling key)) outer.0 in
    let ends = and_parts (int_eq log.span.start span.start) (int_eq log.span.end span.end) outer.1 in
    record {
      node_is = eqb-true log.node node inner.0;
      key_is = (bytes_eq-Decides (spelling log.key) (spelling key)).0 inner.1;
      span_is = spans_same log.span span ((Decides-int_eq log.span.start span.start).0 ends.0) ((Decides-int_eq log.span.end span.end).0 ends.1);
    }

pub log_tells : (node : ℕ) (key : Value) (span : Interval) (log : KeyLog) → IsLogOf node key span log → is_log_of node key span log ≡ true
log_tells node key span log h =
    and_from (log.node == node && bytes_eq (spelling log.key) (spelling key)) (same_span log.span span)
    (and_from (log.node == node) (bytes_eq (spelling log.key) (spelling key)) (eq-eqb log.node node h.node_is) ((bytes_eq-Decides (spelling log.key) (spelling key)).1 h.key_is))
    (and_from (int_eq log.span.start span.start) (int_eq log.span.end span.end)
    ((Decides-int_eq log.span.start span.start).1 (ap (λ (s : Interval). s.start) h.span_is)) ((Decides-int_eq log.span.end span.end).1 (ap (λ (s : Interval). s.end) h.span_is)))

-- what belongs to a cell has its key and window
pub belongs_keyed : (arrival : Arrival) (cell : KeyCell) → belongs arrival cell ≡ true
    → (is_keyed cell.log.key arrival.element ≡ true) × (arrival.element.span ≡ cell.log.span) × (arrival.node ≡ cell.log.node)
belongs_keyed arrival cell h =
    let told = log_told arrival.node (key_of arrival.element) arrival.element.span cell.log h in
    ((bytes_eq-Decides (spelling (key_of arrival.element)) (spelling cell.log.key)).1 (sym told.key_is), sym told.span_is, sym told.node_is)

pub own_log : (node : ℕ) (key : Value) (span : Interval) (log : KeyLog) → log.node ≡ node → spelling log.key ≡ spelling key → log.span ≡ span → is_log_of node key span log ≡ true
own_log node key span log e f g = log_tells node key span log (record { node_is = e; key_is = f; span_is = g })

pub own_fresh : (arrival : Arrival) → belongs arrival (fresh_cell arrival) ≡ true
own_fresh arrival = own_log arrival.node (key_of arrival.element) arrival.element.span (fresh_cell arrival).log refl refl refl

-- where the arrival is of a node, key and window, the cells of these are those that it belongs to
pub of_arrival : (node : ℕ) (key : Value) (span : Interval) (arrival : Arrival) (log : KeyLog) → is_log_of node key span (fresh_cell arrival).log ≡ true
    → is_log_of node key span log ≡ is_log_of arrival.node (key_of arrival.element) arrival.element.span log
of_arrival node key span arrival log h =
    let told = log_told node key span (fresh_cell arrival).log h in
    λ i. (log.node == sym told.node_is i && bytes_eq (spelling log.key) (sym told.key_is i) && same_span log.span (sym told.span_is i))

-- and where it isn't, no cell that it belongs to is of these
pub not_of_arrival : (node : ℕ) (key : Value) (span : Interval) (arrival : Arrival) (cell : KeyCell) → is_log_of node key span (fresh_cell arrival).log ≡ false
    → belongs arrival cell ≡ true → is_log_of node key span cell.log ≡ false
not_of_arrival node key span arrival cell off on = by (is_log_of node key span cell.log) refl
  where
    by : (b : Bool) → is_log_of node key span cell.log ≡ b → b ≡ false
    by false e = refl
    by true e =
        let told = log_told node key span cell.log e in
        let own = log_told arrival.node (key_of arrival.element) arrival.element.span cell.log on in
        let back = own_log node key span (fresh_cell arrival).log (sym own.node_is ∙ told.node_is) (sym own.key_is ∙ told.key_is) (sym own.span_is ∙ told.span_is) in
        sym back ∙ off

-- ---- counts

pub counted : {X : Type 0} (p : X → Bool) (x : X) (xs : List X) → count_by p (x ∷ xs) ≡ cond (p x) 1 0 + count_by p xs
counted p x xs = sum_by-cons (λ y. cond (p y) 1 0) x xs

one_or_none : (b : Bool) → cond b 1 0 ≤ 1
one_or_none true = omega arith
one_or_none false = omega arith

none_of : (b : Bool) → b ≡ false → cond b 1 0 ≤ 0
none_of true e = absurd (cc)
none_of false e = omega arith

module _ (before : List StageMarks) (arrival : Arrival) (node : ℕ) (key : Value) (span : Interval) where
  abbrev test : KeyLog → Bool
  test log = is_log_of node key span log

  others_stay : (cells : List KeyCell) → test (fresh_cell arrival).log ≡ false → count_by test (logs_of (place_in before arrival cells)) ≡ count_by test (logs_of cells)
  others_stay [] off = counted test (fresh_cell arrival).log [] ∙ ap (λ b. cond b 1 0 + 0) off
  others_stay (cell ∷ cells) off = by (belongs arrival cell) (others_stay cells off)
    where
      by : (b : Bool) → count_by test (logs_of (place_in before arrival cells)) ≡ count_by test (logs_of cells)
          → count_by test (logs_of (cond b (with_waiting cell (waits before arrival) ∷ cells) (cell ∷ place_in before arrival cells))) ≡ count_by test (cell.log ∷ logs_of cells)
      by true h = refl
      by false h = omega (arith, h, counted test cell.log (logs_of (place_in before arrival cells)), counted test cell.log (logs_of cells))

  own_once : (cells : List KeyCell) → test (fresh_cell arrival).log ≡ true → count_by test (logs_of (place_in before arrival cells)) ≤ max 1 (count_by test (logs_of cells))
  own_once [] on = omega (arith, counted test (fresh_cell arrival).log [], one_or_none (test (fresh_cell arrival).log))
  own_once (cell ∷ cells) on = by (belongs arrival cell) refl (own_once cells on)
    where
      by : (b : Bool) → belongs arrival cell ≡ b → count_by test (logs_of (place_in before arrival cells)) ≤ max 1 (count_by test (logs_of cells))
          → count_by test (logs_of (cond b (with_waiting cell (waits before arrival) ∷ cells) (cell ∷ place_in before arrival cells))) ≤ max 1 (count_by test (cell.log ∷ logs_of cells))
      by true e h = omega arith
      by false e h =
          omega (arith, h, none_of (test cell.log) (of_arrival node key span arrival cell.log on ∙ e), counted test cell.log (logs_of (place_in before arrival cells)), counted test cell.log (logs_of cells))

  pub once_more : (cells : List KeyCell) → count_by test (logs_of cells) ≤ 1 → count_by test (logs_of (place_in before arrival cells)) ≤ 1
  once_more cells h = by (test (fresh_cell arrival).log) refl
    where
      by : (b : Bool) → test (fresh_cell arrival).log ≡ b → count_by test (logs_of (place_in before arrival cells)) ≤ 1
      by true e = omega (arith, h, own_once cells e)
      by false e = omega (arith, h, others_stay cells e)

-- a list with one item in the place of another that tests alike
pub count_set : {X : Type 0} (p : X → Bool) (xs : List X) (i : ℕ) (x y : X) → slice_get xs i ≡ Some x → p y ≡ p x → count_by p (slice_set xs i y) ≡ count_by p xs
count_set p [] i x y at same = refl
count_set p (z ∷ xs) zero x y at same = counted p y xs ∙ ap (λ b. cond b 1 0 + count_by p xs) (same ∙ ap p (sym (first at))) ∙ sym (counted p z xs)
  where
    first : Some z ≡ Some x → z ≡ x
    first e = cc
count_set p (z ∷ xs) (suc i) x y at same = omega (arith, counted p z (slice_set xs i y), counted p z xs, count_set p xs i x y at same)
