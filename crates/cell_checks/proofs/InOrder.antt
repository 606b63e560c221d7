-- Cells of one Group and key by their windows, of which no two are one.
use Rattle.std.proofs.Common.{◌≡◌, ◌⊎◌, inl, inr, ℕ, zero, suc, ◌+◌, ◌<◌, ◌≤◌, ◌<ℤ◌, Bool, true, false, cond, List, [], ◌∷◌, length, get_or, refl, sym, ap, subst, ◌∙◌, arith, add-one}
use Rattle.std.specs.List.{All, AllAdjacentBelow, count_by}
use Rattle.std.specs.List.Sorted.{IsSorted}
use Rattle.std.specs.Ordering.{MatchOrdering, int_cmp, is_lt, on, ordering_then}
use Rattle.std.specs.declared.cmp.Ordering.{Ordering}
use Rattle.std.specs.declared.cmp.Ordering.TheVariants.{Less, Equal, Greater}
use Rattle.std.proofs.lemmas.Bool.{cases_lt, false≢true, true≢false}
use Rattle.std.proofs.lemmas.Cmp.{int_ranked}
use Rattle.std.proofs.lemmas.Int.{ints}
use Rattle.std.proofs.lemmas.List.Sums.{sum_by-cons}
use Rattle.beam_values.specs.Intervals.{Interval}
use Rattle.beam_values.specs.Spans.{same_span}
use Rattle.beam_values.specs.declared.cell.Cell.{Cell}
use Rattle.session_merge.proofs.Lists.{all_of, contains_first, pairs_across, pairs_second}
use Rattle.group_cells.specs.Sane.{AreOnce}
use Rattle.group_cells.proofs.Counting.{count_member, count_none}
use Rattle.group_cells.proofs.WindowTests.{same_interval, span_itself, span_sound}
use Rattle.cell_checks.specs.Listing.{AreInOrder, IsBefore, window_cmp}

pub differs : (a b : Cell) → IsBefore a b → a.span ≡ b.span → ⊥
differs a b before same = by before (ap (λ (w : Interval). w.start) same) (ap (λ (w : Interval). w.end) same)
  where
    by : IsBefore a b → a.span.start ≡ b.span.start → a.span.end ≡ b.span.end → ⊥
    by (inl first) s e = omega (arith, ints)
    by (inr longer) s e = let l = longer.1 in omega (arith, ints)

onward : (a b c : Cell) → IsBefore a b → IsBefore b c → IsBefore a c
onward a b c (inl p) (inl q) = inl (omega (arith, ints))
onward a b c (inl p) (inr q) = let same = q.0 in inl (omega (arith, ints))
onward a b c (inr p) (inl q) = let same = p.0 in inl (omega (arith, ints))
onward a b c (inr p) (inr q) = let first = p.1 in let second = q.1 in inr (p.0 ∙ q.0, omega (arith, ints))

-- one that isn't listed before another, and has another window
next_before : (a b : Cell) → is_lt (window_cmp b.span a.span) ≡ false → (a.span ≡ b.span → ⊥) → IsBefore a b
next_before a b up other = by (int_cmp b.span.start a.span.start) refl (int_ranked b.span.start a.span.start (int_cmp b.span.start a.span.start) refl) up
  where
    ends : b.span.start ≡ a.span.start → (r : Ordering) → MatchOrdering r (a.span.end <ℤ b.span.end) (a.span.end ≡ b.span.end) (b.span.end <ℤ a.span.end) → is_lt r ≡ false → IsBefore a b
    ends same Less m h = absurd (true≢false h)
    ends same Equal m h = absurd (other (same_interval a.span b.span (sym same) m))
    ends same Greater m h = inr (sym same, m)

    by : (r : Ordering) → int_cmp b.span.start a.span.start ≡ r → MatchOrdering r (b.span.start <ℤ a.span.start) (b.span.start ≡ a.span.start) (a.span.start <ℤ b.span.start)
        → is_lt (ordering_then r (int_cmp a.span.end b.span.end)) ≡ false → IsBefore a b
    by Less e m h = absurd (true≢false h)
    by Equal e m h = ends m (int_cmp a.span.end b.span.end) (int_ranked a.span.end b.span.end (int_cmp a.span.end b.span.end) refl) h
    by Greater e m h = inl m

-- each is before the next one, so before all later ones
pairs_far : (cells : List Cell) → AllAdjacentBelow IsBefore cells (length cells) → AreInOrder cells
pairs_far cells next i j d less within = far j less within
  where
    step : (k : ℕ) → suc k < length cells → IsBefore (get_or cells k d) (get_or cells (suc k) d)
    step k inside = subst (λ (m : ℕ). IsBefore (get_or cells k d) (get_or cells m d)) (add-one k) (next k d (omega arith))

    far : (j : ℕ) → i < j → j < length cells → IsBefore (get_or cells i d) (get_or cells j d)
    far zero lt inside = absurd (omega arith)
    far (suc j) lt inside = by (cases_lt i j) (λ (less : i < j). far j less (omega arith))
      where
        by : (i < j) ⊎ (j ≤ i) → (i < j → IsBefore (get_or cells i d) (get_or cells j d)) → IsBefore (get_or cells i d) (get_or cells (suc j) d)
        by (inl less) rest = onward (get_or cells i d) (get_or cells j d) (get_or cells (suc j) d) (rest less) (step j inside)
        by (inr more) rest =
            let here : i ≡ j = omega arith in
            subst (λ (m : ℕ). IsBefore (get_or cells m d) (get_or cells (suc j) d)) (sym here) (step j inside)

pub in_order : (cells : List Cell) → IsSorted (on (λ (cell : Cell). cell.span) window_cmp) cells
    → AllAdjacentBelow (λ a b. same_span a.span b.span ≡ false) cells (length cells) → AreInOrder cells
in_order cells up other = pairs_far cells (λ k d within.
    next_before (get_or cells k d) (get_or cells (k + 1) d) (up k d (omega arith) within)
    (λ same. false≢true (sym (other k d within) ∙ ap (λ w. same_span w (get_or cells (k + 1) d).span) same ∙ span_itself (get_or cells (k + 1) d).span)))

pub once_in_order : (cells : List Cell) → AreInOrder cells → AreOnce cells
once_in_order [] order w = omega arith
once_in_order (cell ∷ cells) order w = by (same_span cell.span w) refl (once_in_order cells (pairs_second IsBefore (cell ∷ []) cells order) w)
  where
    none : same_span cell.span w ≡ true → All (λ c. same_span c.span w ≡ false) cells
    none e = all_of (λ c. same_span c.span w ≡ false) cells (λ c at. off c (pairs_across IsBefore (cell ∷ []) cells order cell c (contains_first cell []) at) (same_span c.span w) refl)
      where
        off : (c : Cell) → IsBefore cell c → (t : Bool) → same_span c.span w ≡ t → same_span c.span w ≡ false
        off c before true also = absurd (differs cell c before (span_sound cell.span w e ∙ sym (span_sound c.span w also)))
        off c before false also = also

    by : (t : Bool) → same_span cell.span w ≡ t → count_by (λ c. same_span c.span w) cells ≤ 1 → count_by (λ c. same_span c.span w) (cell ∷ cells) ≤ 1
    by true e rest =
        let here : cond {A = ℕ} (same_span cell.span w) 1 0 ≡ 1 = ap (λ (b : Bool). cond {A = ℕ} b 1 0) e in
        omega (arith, sum_by-cons (λ (c : Cell). cond {A = ℕ} (same_span c.span w) 1 0) cell cells, count_none (λ (c : Cell). same_span c.span w) cells (none e))
    by false e rest =
        let here : cond {A = ℕ} (same_span cell.span w) 1 0 ≡ 0 = ap (λ (b : Bool). cond {A = ℕ} b 1 0) e in
        omega (arith, sum_by-cons (λ (c : Cell). cond {A = ℕ} (same_span c.span w) 1 0) cell cells)

-- two that pass are counted twice
counted_twice : {X : Type 0} (p : X → Bool) (xs : List X) (i j : ℕ) (d : X) → i < j → j < length xs → p (get_or xs i d) ≡ true → p (get_or xs j d) ≡ true → 2 ≤ count_by p xs
counted_twice p [] i j d less within first second = absurd (omega arith)
counted_twice p (x ∷ xs) i zero d less within first second = absurd (omega arith)
counted_twice p (x ∷ xs) zero (suc j) d less within first second =
    let here : cond {A = ℕ} (p x) 1 0 ≡ 1 = ap (λ (b : Bool). cond {A = ℕ} b 1 0) first in
    omega (arith, sum_by-cons (λ (y : _). cond {A = ℕ} (p y) 1 0) x xs, count_member p xs j d (omega arith) second)
counted_twice p (x ∷ xs) (suc i) (suc j) d less within first second =
    omega (arith, sum_by-cons (λ (y : _). cond {A = ℕ} (p y) 1 0) x xs, counted_twice p xs i j d (omega arith) (omega arith) first second)

pub not_once : (cells : List Cell) (i j : ℕ) (d : Cell) → i < j → j < length cells → (get_or cells i d).span ≡ (get_or cells j d).span → AreOnce cells → ⊥
not_once cells i j d less within same once =
    let w : Interval = (get_or cells j d).span in
    omega (arith, once w, counted_twice (λ (c : Cell). same_span c.span w) cells i j d less within (ap (λ (v : Interval). same_span v w) same ∙ span_itself w) (span_itself w))
