-- The panes that wait, as one list: what order they have there, and that each queue is had from them again.
use Rattle.std.proofs.Common.{◌≡◌, ◌⊎◌, inl, inr, ℕ, zero, suc, ◌+◌, ◌<◌, ◌≤◌, Bool, true, false, cond, List, [], ◌∷◌, ◌++◌, length, map, get_or, refl, sym, ap, subst, ◌∙◌, arith}
use Rattle.std.specs.Prelude.{Option, Some, None, ◌==◌, slice_get}
use Rattle.std.specs.List.{All, count_by, filter, flat_map, enumerate_from}
use Rattle.std.specs.List.Sorted.{IsNonDecreasingBy, IsPermutation}
use Rattle.std.proofs.lemmas.Bool.Decides.{nat_tests}
use Rattle.std.proofs.lemmas.List.Elements.{All-nil, All-cons, All-head, All-tail, All-filter, All-weaker, filter_passes}
use Rattle.std.proofs.lemmas.List.Sorted.{All-permutation, IsPermutation-sym, sum_by-IsPermutation}
use Rattle.std.proofs.lemmas.List.Sums.{sum_by-cons, sum_by-append}
use Rattle.beam_values.proofs.Bags.{sum_by-map}
use Rattle.beam_values.specs.declared.cell.Pane.{Pane}
use Rattle.beam_values.specs.declared.plan.Node.{Node}
use Rattle.group_cells.proofs.Counting.{All-unmap}
use Rattle.book_core.specs.Book.{SeenBook, HeldPane, held_at, held_in, live_batches, queued}
use Rattle.book_core.specs.Facts.{AreHeldOnce, IsHeldPane, is_held_at}
use Rattle.book_core.specs.Sane.{AscendByPane}
use Rattle.book_core.specs.Stored.{waits_at}
use Rattle.book_core.specs.declared.live.WaitingPane.{WaitingPane}
use Rattle.book_core.proofs.HeldMarks.{eq_true, same_or_not}
use Rattle.book_core.proofs.Queues.{queued_from}
use Rattle.book_core.proofs.Slots.{All-slice_get}
use Rattle.book_core.proofs.Slotted.{All-append_left, All-append_right, All-flat_map, All-of_flat_map}

-- ---- all of a list

pub All-by_get : {X : Type 0} (P : X → Type 0) (xs : List X) → ((i : ℕ) (x : X) → slice_get xs i ≡ Some x → P x) → All P xs
All-by_get P [] h = All-nil P
All-by_get P (x ∷ xs) h = All-cons P x xs (h 0 x refl) (All-by_get P xs (λ i y e. h (suc i) y e))

-- what holds of all that are so holds of all, where all are so
so : {X : Type 0} (A P : X → Type 0) (xs : List X) → All (λ x. A x → P x) xs → All A xs → All P xs
so A P [] h all = All-nil P
so A P (x ∷ xs) h all =
    All-cons P x xs (All-head (λ y. A y → P y) x xs h (All-head A x xs all)) (so A P xs (All-tail (λ y. A y → P y) x xs h) (All-tail A x xs all))

pub All-filter_to : {X : Type 0} (p : X → Bool) (P : X → Type 0) (xs : List X) → All (λ x. p x ≡ true → P x) xs → All P (filter p xs)
All-filter_to p P xs h = so (λ x. p x ≡ true) P (filter p xs) (All-filter p (λ x. p x ≡ true → P x) xs h) (filter_passes p xs)

pub All-filter_from : {X : Type 0} (p : X → Bool) (P : X → Type 0) (xs : List X) → All P (filter p xs) → All (λ x. p x ≡ true → P x) xs
All-filter_from p P [] h = All-nil (λ x. p x ≡ true → P x)
All-filter_from p P (x ∷ xs) h = by (p x) refl h (λ all. All-filter_from p P xs all)
  where
    by : (t : Bool) → p x ≡ t → All P (cond t (x ∷ filter p xs) (filter p xs)) → (All P (filter p xs) → All (λ y. p y ≡ true → P y) xs)
        → All (λ y. p y ≡ true → P y) (x ∷ xs)
    by true e all behind = All-cons (λ y. p y ≡ true → P y) x xs (λ passes. All-head P x (filter p xs) all) (behind (All-tail P x (filter p xs) all))
    by false e all behind = All-cons (λ y. p y ≡ true → P y) x xs (λ passes. absurd (cc)) (behind all)

-- ---- ascending lists of the same panes are equal

abbrev IsAbove : WaitingPane → WaitingPane → Type 0
IsAbove x w = x.pane < w.pane

first_or_above : (x : WaitingPane) (xs : List WaitingPane) → All (IsAbove x) xs → All (λ w. (w ≡ x) ⊎ IsAbove x w) (x ∷ xs)
first_or_above x xs up = All-cons (λ w. (w ≡ x) ⊎ IsAbove x w) x xs (inl refl) (All-weaker (IsAbove x) (λ w. (w ≡ x) ⊎ IsAbove x w) (λ w less. inr less) xs up)

same_first : (x y : WaitingPane) → (y ≡ x) ⊎ IsAbove x y → (x ≡ y) ⊎ IsAbove y x → x ≡ y
same_first x y (inl e) other = sym e
same_first x y (inr less) (inl e) = e
same_first x y (inr less) (inr more) = absurd (omega (arith, less, more))

rest_within : (x y : WaitingPane) (xs ys : List WaitingPane) → x ≡ y → All (IsAbove y) ys → ((P : WaitingPane → Type 0) → All P (x ∷ xs) → All P (y ∷ ys))
    → (P : WaitingPane → Type 0) → All P xs → All P ys
rest_within x y xs ys same up sub P all =
    let behind = All-tail (λ w. IsAbove x w → P w) y ys (sub (λ w. IsAbove x w → P w)
    (All-cons (λ w. IsAbove x w → P w) x xs (λ less. absurd (omega (arith, less))) (All-weaker P (λ w. IsAbove x w → P w) (λ w h less. h) xs all))) in
    so (IsAbove x) P ys behind (subst (λ (w : WaitingPane). All (IsAbove w) ys) (sym same) up)

same_ascending : (xs ys : List WaitingPane) → AscendByPane xs → AscendByPane ys → ((P : WaitingPane → Type 0) → All P xs → All P ys)
    → ((P : WaitingPane → Type 0) → All P ys → All P xs) → xs ≡ ys
same_ascending [] [] first second sub sup = refl
same_ascending [] (y ∷ ys) first second sub sup = absurd (All-head (λ (w : WaitingPane). ⊥) y ys (sub (λ w. ⊥) (All-nil (λ (w : WaitingPane). ⊥))))
same_ascending (x ∷ xs) [] first second sub sup = absurd (All-head (λ (w : WaitingPane). ⊥) x xs (sup (λ w. ⊥) (All-nil (λ (w : WaitingPane). ⊥))))
same_ascending (x ∷ xs) (y ∷ ys) first second sub sup =
    let same : x ≡ y =
    same_first x y (All-head (λ w. (w ≡ x) ⊎ IsAbove x w) y ys (sub (λ w. (w ≡ x) ⊎ IsAbove x w) (first_or_above x xs first.0)))
    (All-head (λ w. (w ≡ y) ⊎ IsAbove y w) x xs (sup (λ w. (w ≡ y) ⊎ IsAbove y w) (first_or_above y ys second.0))) in
    let rest : xs ≡ ys =
    same_ascending xs ys first.1 second.1 (rest_within x y xs ys same second.0 sub) (rest_within y x ys xs (sym same) first.0 sup) in
    cc

-- ---- order

pub ascend_filter : (p : WaitingPane → Bool) (ws : List WaitingPane) → AscendByPane ws → AscendByPane (filter p ws)
ascend_filter p [] up = tt
ascend_filter p (w ∷ ws) up = by (p w) (All-filter p (IsAbove w) ws up.0) (ascend_filter p ws up.1)
  where
    by : (t : Bool) → All (IsAbove w) (filter p ws) → AscendByPane (filter p ws) → AscendByPane (cond t (w ∷ filter p ws) (filter p ws))
    by true above behind = (above, behind)
    by false above behind = behind

abbrev is_pane : ℕ → WaitingPane → Bool
is_pane place w = w.pane == place

-- of panes that don't fall none lies below the first, and where none is held twice all others lie above it
none_below : (w : WaitingPane) (ws : List WaitingPane) → IsNonDecreasingBy (λ (x : WaitingPane). x.pane) (w ∷ ws) → (i : ℕ) (d : WaitingPane) → i < length ws
    → w.pane ≤ (get_or ws i d).pane
none_below w ws up i d less = up 0 (suc i) d (omega arith) (omega arith)

all_above : (w : WaitingPane) (ws : List WaitingPane) → All (λ other. w.pane ≤ other.pane) ws → count_by (is_pane w.pane) (w ∷ ws) ≤ 1 → All (IsAbove w) ws
all_above w [] low once = All-nil (IsAbove w)
all_above w (o ∷ os) low once =
    let one : cond {A = ℕ} (w.pane == w.pane) 1 0 ≡ 1 = grind (arith, nat_tests) in
    let first = sum_by-cons (λ (x : WaitingPane). cond {A = ℕ} (x.pane == w.pane) 1 0) w (o ∷ os) in
    let second = sum_by-cons (λ (x : WaitingPane). cond {A = ℕ} (x.pane == w.pane) 1 0) o os in
    let behind = sum_by-cons (λ (x : WaitingPane). cond {A = ℕ} (x.pane == w.pane) 1 0) w os in
    let not_twice : cond {A = ℕ} (o.pane == w.pane) 1 0 ≤ 0 = omega (arith, one, first, second, once) in
    let here = All-head (λ (other : WaitingPane). w.pane ≤ other.pane) o os low in
    All-cons (IsAbove w) o os (grind (arith, nat_tests)) (all_above w os (All-tail (λ (other : WaitingPane). w.pane ≤ other.pane) o os low)
    (omega (arith, one, first, second, behind, once)))

pub ascends : (ws : List WaitingPane) → IsNonDecreasingBy (λ (x : WaitingPane). x.pane) ws → ((place : ℕ) → count_by (is_pane place) ws ≤ 1) → AscendByPane ws
ascends [] up once = tt
ascends (w ∷ ws) up once = (
  all_above w ws (All-each (λ other. w.pane ≤ other.pane) ws w (λ i less. none_below w ws up i w less)) (once w.pane),
  ascends ws (λ i j d first second. up (suc i) (suc j) d (omega arith) (omega arith))
      (λ place. omega (arith, once place, sum_by-cons (λ (x : WaitingPane). cond {A = ℕ} (x.pane == place) 1 0) w ws)),
)
  where
    All-each : (P : WaitingPane → Type 0) (xs : List WaitingPane) (d : WaitingPane) → ((i : ℕ) → i < length xs → P (get_or xs i d)) → All P xs
    All-each P [] d h = All-nil P
    All-each P (x ∷ xs) d h = All-cons P x xs (h 0 (omega arith)) (All-each P xs d (λ i less. h (suc i) (omega arith)))

-- ---- queues

pub waits_where : (panes : List Pane) (node : ℕ) (w : WaitingPane) (pane : Pane) → slice_get panes w.pane ≡ Some pane → pane.node ≡ node
    → waits_at panes node w ≡ true
waits_where panes node w pane at e =
    ap (λ (o : Option Pane). elim o as (λ _. Bool) [ Some p ↦ p.node == node | None ↦ false ]) at ∙ eq_true pane.node node e

waits_once : (panes : List Pane) (m n : ℕ) (w : WaitingPane) → waits_at panes m w ≡ true → waits_at panes n w ≡ true → m ≡ n
waits_once panes m n w here there = by (slice_get panes w.pane) refl here there
  where
    by : (found : Option Pane) → slice_get panes w.pane ≡ found
        → (elim found as (λ _. Bool) [ Some p ↦ p.node == m | None ↦ false ]) ≡ true
        → (elim found as (λ _. Bool) [ Some p ↦ p.node == n | None ↦ false ]) ≡ true → m ≡ n
    by None at h k = absurd (cc)
    by (Some p) at h k = grind (arith, nat_tests)

module _ (b : SeenBook) where
  abbrev WaitsAt : ℕ → WaitingPane → Type 0
  WaitsAt node w = waits_at b.panes node w ≡ true

  queue_waits : (n : ℕ) (queues : List (List WaitingPane)) → All (IsHeldPane b) (queued_from n queues) → (i : ℕ) (q : List WaitingPane)
      → slice_get queues i ≡ Some q → All (WaitsAt (n + i)) q
  queue_waits n [] all i q at = absurd (cc)
  queue_waits n (q ∷ qs) all zero own at =
      let same : q ≡ own = cc in
      let here : n ≡ n + 0 = omega arith in
      subst (λ (ws : List WaitingPane). All (WaitsAt (n + 0)) ws) same
      (subst (λ (k : ℕ). All (WaitsAt k) q) here
      (All-weaker (λ (w : WaitingPane). IsHeldPane b (record { node = n; waiting = w })) (WaitsAt n) (λ w is. waits_where b.panes n w is.0 is.1 is.2) q
      (All-unmap (IsHeldPane b) (λ (w : WaitingPane). record { node = n; waiting = w }) q
      (All-append_left (IsHeldPane b) (held_at n q) (queued_from (n + 1) qs) all))))
  queue_waits n (q ∷ qs) all (suc i) own at =
      let there : n + 1 + i ≡ n + suc i = omega arith in
      subst (λ (k : ℕ). All (WaitsAt k) own) there
      (queue_waits (n + 1) qs (All-append_right (IsHeldPane b) (held_at n q) (queued_from (n + 1) qs) all) i own at)

queued_once : (place n : ℕ) (queues : List (List WaitingPane))
    → count_by (is_held_at place) (queued_from n queues) ≡ count_by (is_pane place) (flat_map (λ q. q) queues)
queued_once place n [] = refl
queued_once place n (q ∷ qs) =
    omega (
      arith,
      queued_once place (n + 1) qs,
      sum_by-append (λ (h : HeldPane). cond {A = ℕ} (is_held_at place h) 1 0) (held_at n q) (queued_from (n + 1) qs),
      sum_by-append (λ (w : WaitingPane). cond {A = ℕ} (w.pane == place) 1 0) q (flat_map (λ (x : List WaitingPane). x) qs),
      sum_by-map (λ (h : HeldPane). cond {A = ℕ} (is_held_at place h) 1 0) (λ (w : WaitingPane). record { node = n; waiting = w }) q,
    )

-- of each node what a function gives is a list of lists, place by place
pub lists_by : {X : Type 0} (f : ℕ → List X) (n : ℕ) (nodes : List Node) (lists : List (List X)) → length lists ≡ length nodes
    → ((i : ℕ) (l : List X) → slice_get lists i ≡ Some l → f (n + i) ≡ l)
    → map (λ ((node, own) : ℕ × Node). f node) (enumerate_from n nodes) ≡ lists
lists_by f n [] [] sized each = refl
lists_by f n [] (l ∷ ls) sized each = absurd (omega arith)
lists_by f n (node ∷ nodes) [] sized each = absurd (omega arith)
lists_by f n (node ∷ nodes) (l ∷ ls) sized each =
    let here : n + 0 ≡ n = omega arith in
    let first : f n ≡ l = ap f (sym here) ∙ each 0 l refl in
    let later : map (λ ((k, own) : ℕ × Node). f k) (enumerate_from (n + 1) nodes) ≡ ls =
    lists_by f (n + 1) nodes ls (omega arith) (λ i own at. ap f (omega arith) ∙ each (suc i) own at) in
    cc

from_zero : (k : ℕ) → 0 + k ≡ k
from_zero k = omega arith

-- panes of all queues, in one order
module _ (b : SeenBook) (once : AreHeldOnce b) (waiting : List WaitingPane) (moved : IsPermutation (flat_map (λ (q : List WaitingPane). q) b.queues) waiting)
    (order : IsNonDecreasingBy (λ (w : WaitingPane). w.pane) waiting) where
  queued_well : All (IsHeldPane b) (queued b)
  queued_well = All-append_left (IsHeldPane b) (queued b) (flat_map held_in b.returned ++ flat_map held_in (live_batches b)) once.panes

  pub waiting_up : AscendByPane waiting
  waiting_up = ascends waiting order (λ place. omega (
    arith,
    once.once place,
    queued_once place 0 b.queues,
    sum_by-append (λ (h : HeldPane). cond {A = ℕ} (is_held_at place h) 1 0) (queued b) (flat_map held_in b.returned ++ flat_map held_in (live_batches b)),
    sum_by-IsPermutation (λ (w : WaitingPane). cond {A = ℕ} (w.pane == place) 1 0) (flat_map (λ (q : List WaitingPane). q) b.queues) waiting moved,
  ))

  pub waiting_all : (P : WaitingPane → Type 0) → All (All P) b.queues → All P waiting
  waiting_all P all = All-permutation P (flat_map (λ (q : List WaitingPane). q) b.queues) waiting moved (All-flat_map P (λ q. q) b.queues all)

  queues_all : (P : WaitingPane → Type 0) → All P waiting → All (All P) b.queues
  queues_all P all =
      All-of_flat_map P (λ q. q) b.queues
      (All-permutation P waiting (flat_map (λ (q : List WaitingPane). q) b.queues)
      (IsPermutation-sym (flat_map (λ (q : List WaitingPane). q) b.queues) waiting moved) all)

  module _ (i : ℕ) (q : List WaitingPane) (at : slice_get b.queues i ≡ Some q) where
    own : All (WaitsAt b i) q
    own = subst (λ (k : ℕ). All (WaitsAt b k) q) (from_zero i) (queue_waits b 0 b.queues queued_well i q at)

    filtered_within : (P : WaitingPane → Type 0) → All P (filter (waits_at b.panes i) waiting) → All P q
    filtered_within P all =
        so (WaitsAt b i) P q
        (All-slice_get (All (λ w. WaitsAt b i w → P w)) b.queues i q at
        (queues_all (λ w. WaitsAt b i w → P w) (All-filter_from (waits_at b.panes i) P waiting all))) own

    queue_within : (P : WaitingPane → Type 0) → All P q → All P (filter (waits_at b.panes i) waiting)
    queue_within P all =
        All-filter_to (waits_at b.panes i) P waiting
        (waiting_all (λ w. WaitsAt b i w → P w) (All-by_get (All (λ w. WaitsAt b i w → P w)) b.queues (λ k other found. by k other found (same_or_not k i))))
      where
        by : (k : ℕ) (other : List WaitingPane) → slice_get b.queues k ≡ Some other → (k ≡ i) ⊎ (k ≡ i → ⊥) → All (λ w. WaitsAt b i w → P w) other
        by k other found (inl e) =
            let there : slice_get b.queues i ≡ Some other = ap (slice_get b.queues) (sym e) ∙ found in
            let same : q ≡ other = cc in
            All-weaker P (λ w. WaitsAt b i w → P w) (λ w h is. h) other (subst (λ (l : List WaitingPane). All P l) same all)
        by k other found (inr differs) =
            All-weaker (WaitsAt b k) (λ w. WaitsAt b i w → P w) (λ w there here. absurd (differs (waits_once b.panes k i w there here))) other
            (subst (λ (n : ℕ). All (WaitsAt b n) other) (from_zero k) (queue_waits b 0 b.queues queued_well k other found))

    pub queue_back : AscendByPane q → filter (waits_at b.panes i) waiting ≡ q
    queue_back up =
        same_ascending (filter (waits_at b.panes i) waiting) q (ascend_filter (waits_at b.panes i) waiting waiting_up) up filtered_within queue_within

  pub queues_back : length b.queues ≡ length b.plan.nodes → All AscendByPane b.queues
      → map (λ ((node, own) : ℕ × Node). filter (waits_at b.panes node) waiting) (enumerate_from 0 b.plan.nodes) ≡ b.queues
  queues_back sized up =
      lists_by (λ (node : ℕ). filter (waits_at b.panes node) waiting) 0 b.plan.nodes b.queues sized
      (λ i q at. ap (λ (n : ℕ). filter (waits_at b.panes n) waiting) (from_zero i) ∙ queue_back i q at (All-slice_get AscendByPane b.queues i q at up))
