-- What waits in the queues weighs, where one queue is set and where panes fire.
use Rattle.std.proofs.Common.{◌≡◌, ℕ, zero, suc, ◌+◌, ◌<◌, Bool, true, false, cond, List, [], ◌∷◌, ◌++◌, length, map, refl, sym, ap, ◌∙◌, arith}
use Rattle.std.specs.Prelude.{Some, ◌==◌, ◌&&◌, nat_le, nat_lt, slice_get, slice_set}
use Rattle.std.specs.List.{All, flat_map, sum_by, enumerate_from}
use Rattle.std.proofs.lemmas.Bool.Decides.{nat_tests}
use Rattle.std.proofs.lemmas.List.Elements.{All-head, All-tail}
use Rattle.std.proofs.lemmas.List.Sums.{sum_by-cons, sum_by-append}
use Rattle.beam_values.proofs.Bags.{sum_by-map}
use Rattle.beam_values.specs.declared.cell.Pane.{Pane}
use Rattle.beam_values.specs.declared.marks.StageMarks.{StageMarks}
use Rattle.book_core.specs.Book.{HeldPane, held_at}
use Rattle.book_core.specs.Changes.{as_waiting, fired_at, with_fired}
use Rattle.book_core.specs.declared.live.WaitingPane.{WaitingPane}

-- all that waits, from the queue of this node on
abbrev pub queued_from : ℕ → List (List WaitingPane) → List HeldPane
queued_from n queues = flat_map (λ (node, panes). held_at node panes) (enumerate_from n queues)

module _ (w : HeldPane → ℕ) where
  abbrev at : ℕ → List WaitingPane → ℕ
  at node panes = sum_by w (held_at node panes)

  pub at_append : (node : ℕ) (xs ys : List WaitingPane) → at node (xs ++ ys) ≡ at node xs + at node ys
  at_append node xs ys =
      omega (
        arith,
        sum_by-map w (λ waiting. record { node = node; waiting = waiting }) (xs ++ ys),
        sum_by-map w (λ waiting. record { node = node; waiting = waiting }) xs,
        sum_by-map w (λ waiting. record { node = node; waiting = waiting }) ys,
        sum_by-append (λ (waiting : WaitingPane). w (record { node = node; waiting = waiting })) xs ys,
      )

  pub queue_set_weighs : (n node : ℕ) (queues : List (List WaitingPane)) (old new : List WaitingPane) → slice_get queues node ≡ Some old
      → sum_by w (queued_from n (slice_set queues node new)) + at (n + node) old ≡ sum_by w (queued_from n queues) + at (n + node) new
  queue_set_weighs n node [] old new e = absurd (cc)
  queue_set_weighs n zero (q ∷ qs) old new e =
      let same : q ≡ old = cc in
      let here : n + 0 ≡ n = omega arith in
      let first : at n q ≡ at (n + 0) old = ap (at n) same ∙ ap (λ (k : ℕ). at k old) (sym here) in
      omega (
        arith,
        first,
        ap (λ (k : ℕ). at k new) here,
        sum_by-append w (held_at n new) (queued_from (n + 1) qs),
        sum_by-append w (held_at n q) (queued_from (n + 1) qs),
      )
  queue_set_weighs n (suc node) (q ∷ qs) old new e =
      let there : n + suc node ≡ n + 1 + node = omega arith in
      omega (
        arith,
        queue_set_weighs (n + 1) node qs old new e,
        ap (λ (k : ℕ). at k new) there,
        ap (λ (k : ℕ). at k old) there,
        sum_by-append w (held_at n q) (queued_from (n + 1) (slice_set qs node new)),
        sum_by-append w (held_at n q) (queued_from (n + 1) qs),
      )

-- ---- panes that fire

-- a pane as it waits
abbrev pub held_fired : List StageMarks → (ℕ × Pane) → HeldPane
held_fired before numbered = record { node = numbered.1.node; waiting = as_waiting before numbered }

in_part : ℕ → ℕ → ℕ → Bool
in_part from many node = nat_le from node && nat_lt node (from + many)

module _ (w : HeldPane → ℕ) (before : List StageMarks) where
  of_part : ℕ → ℕ → (ℕ × Pane) → ℕ
  of_part from many numbered = cond (in_part from many numbered.1.node) (w (held_fired before numbered)) 0

  none_in : (from : ℕ) (fired : List (ℕ × Pane)) → sum_by (of_part from 0) fired ≡ 0
  unfolding of_part in_part
  none_in from [] = refl
  none_in from (x ∷ xs) =
      let here : of_part from 0 x ≡ 0 = grind (arith, nat_tests) in
      omega (arith, sum_by-cons (of_part from 0) x xs, none_in from xs, here)

  more_by : (b one part : Bool) (v : ℕ) → b ≡ cond one true part → (one ≡ true → part ≡ false) → cond b v 0 ≡ cond one v 0 + cond part v 0
  more_by b true part v e not_both = omega (arith, ap (λ (t : Bool). cond t v 0) e, ap (λ (t : Bool). cond t v 0) (not_both refl))
  more_by b false part v e not_both = omega (arith, ap (λ (t : Bool). cond t v 0) e)

  part_more : (from many : ℕ) (x : ℕ × Pane) → of_part from (suc many) x ≡ cond (x.1.node == from) (w (held_fired before x)) 0 + of_part (from + 1) many x
  unfolding of_part in_part
  part_more from many x =
      more_by (in_part from (suc many) x.1.node) (x.1.node == from) (in_part (from + 1) many x.1.node) (w (held_fired before x))
      (grind (arith, nat_tests)) (λ e. grind (arith, nat_tests))

  parts_more : (from many : ℕ) (fired : List (ℕ × Pane))
      → sum_by (of_part from (suc many)) fired ≡ sum_by (λ x. cond (x.1.node == from) (w (held_fired before x)) 0) fired + sum_by (of_part (from + 1) many) fired
  parts_more from many [] = refl
  parts_more from many (x ∷ xs) =
      omega (
        arith,
        part_more from many x,
        parts_more from many xs,
        sum_by-cons (of_part from (suc many)) x xs,
        sum_by-cons (λ (y : ℕ × Pane). cond (y.1.node == from) (w (held_fired before y)) 0) x xs,
        sum_by-cons (of_part (from + 1) many) x xs,
      )

  -- of one node
  fired_here : (node : ℕ) (fired : List (ℕ × Pane))
      → sum_by w (held_at node (map (as_waiting before) (fired_at node fired))) ≡ sum_by (λ x. cond (x.1.node == node) (w (held_fired before x)) 0) fired
  fired_here node [] = refl
  fired_here node (x ∷ xs) = by (x.1.node == node) refl (fired_here node xs)
    where
      by : (t : Bool) → (x.1.node == node) ≡ t
          → sum_by w (held_at node (map (as_waiting before) (fired_at node xs))) ≡ sum_by (λ y. cond (y.1.node == node) (w (held_fired before y)) 0) xs
          → sum_by w (held_at node (map (as_waiting before) (cond t (x ∷ fired_at node xs) (fired_at node xs))))
          ≡ sum_by (λ y. cond (y.1.node == node) (w (held_fired before y)) 0) (x ∷ xs)
      by true e behind =
          let same : x.1.node ≡ node = grind (arith, nat_tests) in
          let weight : w (record { node = node; waiting = as_waiting before x }) ≡ w (held_fired before x) = ap (λ (k : ℕ). w (record { node = k; waiting = as_waiting before x })) (sym same) in
          let value : cond (x.1.node == node) (w (held_fired before x)) 0 ≡ w (held_fired before x) = ap (λ (t : Bool). cond t (w (held_fired before x)) 0) e in
          omega (
            arith,
            weight,
            value,
            behind,
            sum_by-cons w (record { node = node; waiting = as_waiting before x }) (held_at node (map (as_waiting before) (fired_at node xs))),
            sum_by-cons (λ (y : ℕ × Pane). cond (y.1.node == node) (w (held_fired before y)) 0) x xs,
          )
      by false e behind =
          let value : cond (x.1.node == node) (w (held_fired before x)) 0 ≡ 0 = ap (λ (t : Bool). cond t (w (held_fired before x)) 0) e in
          omega (arith, value, behind, sum_by-cons (λ (y : ℕ × Pane). cond (y.1.node == node) (w (held_fired before y)) 0) x xs)

  fired_from : (n : ℕ) (queues : List (List WaitingPane)) (fired : List (ℕ × Pane))
      → sum_by w (queued_from n (map (with_fired before fired) (enumerate_from n queues)))
      ≡ sum_by w (queued_from n queues) + sum_by (of_part n (length queues)) fired
  fired_from n [] fired = omega (arith, none_in n fired)
  fired_from n (q ∷ qs) fired =
      let later = map (with_fired before fired) (enumerate_from (n + 1) qs) in
      let mine = map (as_waiting before) (fired_at n fired) in
      let many : sum_by (of_part n (length (q ∷ qs))) fired ≡ sum_by (of_part n (suc (length qs))) fired = refl in
      omega (
        arith,
        fired_from (n + 1) qs fired,
        parts_more n (length qs) fired,
        fired_here n fired,
        many,
        at_append w n q mine,
        sum_by-append w (held_at n (q ++ mine)) (queued_from (n + 1) later),
        sum_by-append w (held_at n q) (queued_from (n + 1) qs),
      )

  all_in : (many : ℕ) (fired : List (ℕ × Pane)) → All (λ x. x.1.node < many) fired
      → sum_by (of_part 0 many) fired ≡ sum_by w (map (held_fired before) fired)
  unfolding of_part in_part
  all_in many [] h = refl
  all_in many (x ∷ xs) h =
      let less : x.1.node < many = All-head (λ (y : ℕ × Pane). y.1.node < many) x xs h in
      let here : of_part 0 many x ≡ w (held_fired before x) = grind (arith, nat_tests) in
      omega (
        arith,
        here,
        all_in many xs (All-tail (λ (y : ℕ × Pane). y.1.node < many) x xs h),
        sum_by-cons (of_part 0 many) x xs,
        sum_by-cons w (held_fired before x) (map (held_fired before) xs),
      )

  -- all that fired waits behind what waited
  pub fired_weigh : (queues : List (List WaitingPane)) (fired : List (ℕ × Pane)) → All (λ x. x.1.node < length queues) fired
      → sum_by w (queued_from 0 (map (with_fired before fired) (enumerate_from 0 queues)))
      ≡ sum_by w (queued_from 0 queues) + sum_by w (map (held_fired before) fired)
  fired_weigh queues fired h = omega (arith, fired_from 0 queues fired, all_in (length queues) fired h)
