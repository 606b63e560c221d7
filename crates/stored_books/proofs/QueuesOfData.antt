-- What waits in the queues of a book that data stands for: just the panes that wait in the data, each at its own Group.
use Rattle.std.proofs.Common.{◌≡◌, ℕ, suc, ◌+◌, ◌<◌, Bool, true, false, cond, List, [], ◌∷◌, length, map, refl, sym, ap, ◌∙◌, arith, eqb-true}
use Rattle.std.specs.Prelude.{Option, Some, None, ◌==◌, ◌&&◌, nat_le, nat_lt, slice_get, sum_by}
use Rattle.std.specs.List.{All, enumerate_from, filter, flat_map}
use Rattle.std.specs.Option.{option_map}
use Rattle.std.proofs.lemmas.Bool.{false≢true}
use Rattle.std.proofs.lemmas.Bool.Decides.{nat_tests}
use Rattle.std.proofs.lemmas.List.Elements.{All-append, All-cons, All-filter, All-map, All-nil, All-weaker, filter_passes}
use Rattle.std.proofs.lemmas.List.Sums.{sum_by-append, sum_by-cons}
use Rattle.beam_values.specs.declared.cell.Pane.{Pane}
use Rattle.beam_values.specs.declared.plan.Node.{Node}
use Rattle.book_core.specs.Book.{HeldPane, held_at}
use Rattle.book_core.specs.Sane.{AscendByPane}
use Rattle.book_core.specs.Stored.{waits_at}
use Rattle.book_core.specs.declared.live.WaitingPane.{WaitingPane}
use Rattle.book_core.proofs.Queues.{queued_from}
use Rattle.book_core.proofs.Slotted.{one_weighs}
use Rattle.stored_books.specs.Held.{if_there, node_in}

-- the queues of these nodes
abbrev pub queues_from : List Pane → List WaitingPane → ℕ → List Node → List (List WaitingPane)
queues_from panes waiting n nodes = map (λ (node, _). filter (waits_at panes node) waiting) (enumerate_from n nodes)

abbrev pub held_of : WaitingPane → ℕ → HeldPane
held_of waiting node = record { node = node; waiting = waiting }

abbrev pub own_held : List Pane → WaitingPane → List HeldPane
own_held panes waiting = if_there (held_of waiting) (node_in panes waiting)

in_part : ℕ → ℕ → ℕ → Bool
in_part from many node = nat_le from node && nat_lt node (from + many)

abbrev waits_by : Option ℕ → ℕ → Bool
waits_by None n = false
waits_by (Some node) n = node == n

in_none : (from node : ℕ) → (nat_le from node && nat_lt node (from + 0)) ≡ false
in_none from node = grind (arith, nat_tests)

in_more : (from many node : ℕ) → (nat_le from node && nat_lt node (from + suc many))
    ≡ cond (node == from) true (nat_le (from + 1) node && nat_lt node (from + 1 + many))
in_more from many node = grind (arith, nat_tests)

in_once : (from many node : ℕ) → (node == from) ≡ true → (nat_le (from + 1) node && nat_lt node (from + 1 + many)) ≡ false
in_once from many node e = grind (arith, nat_tests)

in_all : (many node : ℕ) → node < many → (nat_le 0 node && nat_lt node (0 + many)) ≡ true
in_all many node less = grind (arith, nat_tests)

waits_at-is : (panes : List Pane) (n : ℕ) (x : WaitingPane) → waits_at panes n x ≡ waits_by (node_in panes x) n
waits_at-is panes n x = by (slice_get panes x.pane)
  where
    by : (o : Option Pane) → elim o [ Some pane ↦ pane.node == n | None ↦ false ] ≡ waits_by (option_map (λ pane. pane.node) o) n
    by None = refl
    by (Some pane) = refl

abbrev pub IsNodeBelow : ℕ → Option ℕ → Type 0
IsNodeBelow many None = Unit {0}
IsNodeBelow many (Some node) = node < many

module _ (w : HeldPane → ℕ) (panes : List Pane) where
  abbrev weight : (ℕ → Bool) → WaitingPane → Option ℕ → ℕ
  weight test x None = 0
  weight test x (Some node) = cond (test node) (w (held_of x node)) 0

  of_part : ℕ → ℕ → WaitingPane → ℕ
  of_part from many x = weight (in_part from many) x (node_in panes x)

  of_node : ℕ → WaitingPane → ℕ
  of_node n x = weight (λ node. node == n) x (node_in panes x)

  none_here : (from : ℕ) (x : WaitingPane) → of_part from 0 x ≡ 0
  unfolding of_part in_part
  none_here from x = by (node_in panes x)
    where
      off : (t : Bool) (v : ℕ) → t ≡ false → cond t v 0 ≡ 0
      off t v e = ap (λ (s : Bool). cond s v 0) e

      by : (o : Option ℕ) → weight (λ node. nat_le from node && nat_lt node (from + 0)) x o ≡ 0
      by None = refl
      by (Some node) = off (nat_le from node && nat_lt node (from + 0)) (w (held_of x node)) (in_none from node)

  none_in : (from : ℕ) (xs : List WaitingPane) → sum_by (of_part from 0) xs ≡ 0
  none_in from [] = refl
  none_in from (x ∷ xs) = omega (arith, sum_by-cons (of_part from 0) x xs, none_in from xs, none_here from x)

  more_by : (b one part : Bool) (v : ℕ) → b ≡ cond one true part → (one ≡ true → part ≡ false) → cond b v 0 ≡ cond one v 0 + cond part v 0
  more_by b true part v e not_both = omega (arith, ap (λ (t : Bool). cond t v 0) e, ap (λ (t : Bool). cond t v 0) (not_both refl))
  more_by b false part v e not_both = omega (arith, ap (λ (t : Bool). cond t v 0) e)

  part_more : (from many : ℕ) (x : WaitingPane) → of_part from (suc many) x ≡ of_node from x + of_part (from + 1) many x
  unfolding of_part of_node in_part
  part_more from many x = by (node_in panes x)
    where
      by : (o : Option ℕ)
          → weight (λ node. nat_le from node && nat_lt node (from + suc many)) x o
          ≡ weight (λ node. node == from) x o + weight (λ node. nat_le (from + 1) node && nat_lt node (from + 1 + many)) x o
      by None = refl
      by (Some node) =
          more_by (nat_le from node && nat_lt node (from + suc many)) (node == from) (nat_le (from + 1) node && nat_lt node (from + 1 + many))
          (w (held_of x node))
          (in_more from many node) (in_once from many node)

  parts_more : (from many : ℕ) (xs : List WaitingPane) → sum_by (of_part from (suc many)) xs ≡ sum_by (of_node from) xs + sum_by (of_part (from + 1) many) xs
  parts_more from many [] = refl
  parts_more from many (x ∷ xs) =
      omega (
        arith,
        part_more from many x,
        parts_more from many xs,
        sum_by-cons (of_part from (suc many)) x xs,
        sum_by-cons (of_node from) x xs,
        sum_by-cons (of_part (from + 1) many) x xs,
      )

  of_node-is : (n : ℕ) (x : WaitingPane) (o : Option ℕ) → node_in panes x ≡ o → of_node n x ≡ weight (λ node. node == n) x o
  unfolding of_node
  of_node-is n x o e = ap (weight (λ node. node == n) x) e

  -- of one node
  waits_here : (n : ℕ) (xs : List WaitingPane) → sum_by w (held_at n (filter (waits_at panes n) xs)) ≡ sum_by (of_node n) xs
  waits_here n [] = refl
  waits_here n (x ∷ xs) = by (node_in panes x) refl (waits_at panes n x) (waits_at-is panes n x) (waits_here n xs)
    where
      by : (o : Option ℕ) → node_in panes x ≡ o → (t : Bool) → t ≡ waits_by (node_in panes x) n
          → sum_by w (held_at n (filter (waits_at panes n) xs)) ≡ sum_by (of_node n) xs
          → sum_by w (held_at n (cond t (x ∷ filter (waits_at panes n) xs) (filter (waits_at panes n) xs))) ≡ sum_by (of_node n) (x ∷ xs)
      by o e t is behind = one t (is ∙ ap (λ (p : Option ℕ). waits_by p n) e)
        where
          here : of_node n x ≡ weight (λ node. node == n) x o
          here = of_node-is n x o e

          one : (t : Bool) → t ≡ waits_by o n
              → sum_by w (held_at n (cond t (x ∷ filter (waits_at panes n) xs) (filter (waits_at panes n) xs))) ≡ sum_by (of_node n) (x ∷ xs)
          one true is = omega (
            arith,
            behind,
            sum_by-cons (of_node n) x xs,
            sum_by-cons w (held_of x n)
                (held_at n (filter (waits_at panes n) xs)),
            here,
            mine o is,
          )
            where
              mine : (p : Option ℕ) → true ≡ waits_by p n → weight (λ node. node == n) x p ≡ w (held_of x n)
              mine None f = absurd (false≢true (sym f))
              mine (Some node) f = ap (λ (t : Bool). cond t (w (held_of x node)) 0) (sym f) ∙ ap (λ (k : ℕ). w (held_of x k)) (eqb-true node n (sym f))
          one false is = omega (arith, behind, sum_by-cons (of_node n) x xs, here, others o is)
            where
              others : (p : Option ℕ) → false ≡ waits_by p n → weight (λ node. node == n) x p ≡ 0
              others None f = refl
              others (Some node) f = ap (λ (t : Bool). cond t (w (held_of x node)) 0) (sym f)

  waits_from : (n : ℕ) (nodes : List Node) (xs : List WaitingPane) → sum_by w (queued_from n (queues_from panes xs n nodes))
      ≡ sum_by (of_part n (length nodes)) xs
  waits_from n [] xs = sym (none_in n xs)
  waits_from n (node ∷ nodes) xs =
      let many : sum_by (of_part n (length (node ∷ nodes))) xs ≡ sum_by (of_part n (suc (length nodes))) xs = refl in
      omega (
        arith,
        many,
        parts_more n (length nodes) xs,
        waits_here n xs,
        waits_from (n + 1) nodes xs,
        sum_by-append w (held_at n (filter (waits_at panes n) xs)) (queued_from (n + 1) (queues_from panes xs (n + 1) nodes)),
      )

  all_here : (many : ℕ) (x : WaitingPane) → IsNodeBelow many (node_in panes x) → of_part 0 many x ≡ sum_by w (own_held panes x)
  unfolding of_part in_part
  all_here many x low = by (node_in panes x) low
    where
      passes : (t : Bool) (v : ℕ) → t ≡ true → cond t v 0 ≡ v
      passes t v e = ap (λ (s : Bool). cond s v 0) e

      by : (o : Option ℕ) → IsNodeBelow many o → weight (λ node. nat_le 0 node && nat_lt node (0 + many)) x o ≡ sum_by w (if_there (held_of x) o)
      by None less = refl
      by (Some node) less = passes (nat_le 0 node && nat_lt node (0 + many)) (w (held_of x node)) (in_all many node less) ∙ sym (one_weighs w (held_of x node))

  all_in : (many : ℕ) (xs : List WaitingPane) → ((x : WaitingPane) → IsNodeBelow many (node_in panes x)) → sum_by (of_part 0 many) xs
      ≡ sum_by w (flat_map (own_held panes) xs)
  all_in many [] low = refl
  all_in many (x ∷ xs) low =
      omega (
        arith,
        sum_by-cons (of_part 0 many) x xs,
        sum_by-append w (own_held panes x)
            (flat_map (own_held panes) xs),
        all_in many xs low,
        all_here many x (low x),
      )

  -- as many wait in the queues as wait at all
  pub queues_weigh : (nodes : List Node) (xs : List WaitingPane) → ((x : WaitingPane) → IsNodeBelow (length nodes) (node_in panes x))
      → sum_by w (queued_from 0 (queues_from panes xs 0 nodes)) ≡ sum_by w (flat_map (own_held panes) xs)
  queues_weigh nodes xs low = waits_from 0 nodes xs ∙ all_in (length nodes) xs low

-- ---- what is so of each

abbrev pub IsAtOwn : List Pane → HeldPane → Type 0
IsAtOwn panes held = (pane : Pane) × (slice_get panes held.waiting.pane ≡ Some pane) × (pane.node ≡ held.node)

pub own_at_own : (panes : List Pane) (x : WaitingPane) → All (IsAtOwn panes) (own_held panes x)
own_at_own panes x = by (slice_get panes x.pane) refl
  where
    by : (o : Option Pane) → slice_get panes x.pane ≡ o → All (IsAtOwn panes) (if_there (held_of x) (option_map (λ pane. pane.node) o))
    by None e = All-nil (IsAtOwn panes)
    by (Some pane) e = All-cons (IsAtOwn panes) (held_of x pane.node) [] (pane, e, refl) (All-nil (IsAtOwn panes))

waiting_at_own : (panes : List Pane) (n : ℕ) (x : WaitingPane) → waits_at panes n x ≡ true → IsAtOwn panes (held_of x n)
waiting_at_own panes n x passes = by (slice_get panes x.pane) refl (sym (waits_at-is panes n x) ∙ passes)
  where
    by : (o : Option Pane) → slice_get panes x.pane ≡ o → waits_by (option_map (λ pane. pane.node) o) n ≡ true → IsAtOwn panes (held_of x n)
    by None e t = absurd (false≢true t)
    by (Some pane) e t = (pane, e, eqb-true pane.node n t)

pub queued_at_own : (panes : List Pane) (xs : List WaitingPane) (n : ℕ) (nodes : List Node) → All (IsAtOwn panes) (queued_from n (queues_from panes xs n nodes))
queued_at_own panes xs n [] = All-nil (IsAtOwn panes)
queued_at_own panes xs n (node ∷ nodes) =
    All-append (IsAtOwn panes) (held_at n (filter (waits_at panes n) xs)) (queued_from (n + 1) (queues_from panes xs (n + 1) nodes))
    (All-map (IsAtOwn panes) (λ (x : WaitingPane). held_of x n) (filter (waits_at panes n) xs)
    (All-weaker (λ (x : WaitingPane). waits_at panes n x ≡ true) (λ (x : WaitingPane). IsAtOwn panes (held_of x n))
    (λ x passes. waiting_at_own panes n x passes)
    (filter (waits_at panes n) xs) (filter_passes (waits_at panes n) xs)))
    (queued_at_own panes xs (n + 1) nodes)

ascend_filter : (p : WaitingPane → Bool) (xs : List WaitingPane) → AscendByPane xs → AscendByPane (filter p xs)
ascend_filter p [] up = tt
ascend_filter p (x ∷ xs) up = by (p x) (ascend_filter p xs up.1)
  where
    by : (t : Bool) → AscendByPane (filter p xs) → AscendByPane (cond t (x ∷ filter p xs) (filter p xs))
    by true later = (All-filter p (λ (other : WaitingPane). x.pane < other.pane) xs up.0, later)
    by false later = later

pub queues_ascend : (panes : List Pane) (xs : List WaitingPane) (n : ℕ) (nodes : List Node) → AscendByPane xs → All AscendByPane (queues_from panes xs n nodes)
queues_ascend panes xs n [] up = All-nil AscendByPane
queues_ascend panes xs n (node ∷ nodes) up =
    All-cons AscendByPane (filter (waits_at panes n) xs) (queues_from panes xs (n + 1) nodes) (ascend_filter (waits_at panes n) xs up)
    (queues_ascend panes xs (n + 1) nodes up)
