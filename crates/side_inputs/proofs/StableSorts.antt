-- A stable sort is the insertion sort: lists in order, in which what ties stands alike, are one.
use Rattle.std.proofs.Common.{◌≡◌, ℕ, suc, ◌+◌, ◌<◌, Bool, true, false, not, cond, ◌&&◌, List, [], ◌∷◌, length, get_or, refl, sym, ap, ◌∙◌, true≢false, arith}
use Rattle.std.specs.Prelude.{if◌then◌else◌}
use Rattle.std.specs.Cmp.{IsStrictWeakOrder}
use Rattle.std.specs.declared.cmp.Ordering.{Ordering}
use Rattle.std.specs.Fn.{Called}
use Rattle.std.specs.List.{filter}
use Rattle.std.specs.List.Sorted.{IsSortedBy, IsStableBy, IsStableByClosure, ties}
use Rattle.std.specs.Ordering.{is_lt}
use Rattle.std.proofs.lemmas.Fn.{always_returns_same}
use Rattle.std.proofs.lemmas.List.Sorted.{ranks_by, sorted_far}
use Rattle.beam_values.specs.Orders.{value_cmp}
use Rattle.beam_values.specs.declared.value.Value.{Value}
use Rattle.beam_model.specs.Functions.{insert_value, ascending}
use Rattle.beam_model.proofs.Ascending.{value_total, ascending_sorted}
use denote.Ref.{Bor}
use denote.Param.Members.{Mut}

module _ {X : Type 0} (lt : X → X → Bool) (order : IsStrictWeakOrder lt) where
  not_itself : (x : X) → lt x x ≡ false
  not_itself x = by_test (lt x x) refl
    where
      by_test : (less : Bool) → lt x x ≡ less → lt x x ≡ false
      by_test true is = order.one_way x x is
      by_test false is = is

  ties_itself : (x : X) → ties lt x x ≡ true
  ties_itself x = ap (λ less. not less && not less) (not_itself x)

  tied : (x y : X) → lt x y ≡ false → lt y x ≡ false → ties lt x y ≡ true
  tied x y e f = rw (e, f) refl

  both_ways : (a b : Bool) → (not a && not b) ≡ true → (a ≡ false) × (b ≡ false)
  both_ways false false e = (refl, refl)
  both_ways false true e = absurd cc
  both_ways true b e = absurd cc

  -- a list of which something ties with z has it at some place
  tied_at : (z : X) (xs : List X) (w : X) (ws : List X) → filter (ties lt z) xs ≡ w ∷ ws → (k : ℕ) × (k < length xs) × (ties lt z (get_or xs k z) ≡ true)
  tied_at z [] w ws is = absurd cc
  tied_at z (x ∷ xs) w ws is = by_test (ties lt z x) refl (λ rest. tied_at z xs w ws rest)
    where
      by_test : (ties_z : Bool) → ties lt z x ≡ ties_z → (filter (ties lt z) xs ≡ w ∷ ws → (k : ℕ) × (k < length xs) × (ties lt z (get_or xs k z) ≡ true))
          → (k : ℕ) × (k < length (x ∷ xs)) × (ties lt z (get_or (x ∷ xs) k z) ≡ true)
      by_test true e later = (0, omega arith, e)
      by_test false e later =
          let rest = later (sym (ap (λ b. cond b (x ∷ filter (ties lt z) xs) (filter (ties lt z) xs)) e) ∙ is) in
          (suc rest.0, omega (arith, rest.1), rest.2)

  -- what ties with something of an ascending list is not below its first
  not_below : (z x : X) (xs : List X) (w : X) (ws : List X) → IsSortedBy lt (x ∷ xs) → filter (ties lt z) (x ∷ xs) ≡ w ∷ ws → lt z x ≡ false
  not_below z x xs w ws up is =
      let at = tied_at z (x ∷ xs) w ws is in
      let apart = both_ways (lt z (get_or (x ∷ xs) at.0 z)) (lt (get_or (x ∷ xs) at.0 z) z) at.2 in
      order.chain z (get_or (x ∷ xs) at.0 z) x apart.0 (sorted_far lt order (x ∷ xs) up 0 at.0 z (omega arith) at.1)

  pub sorted_rest : (x : X) (xs : List X) → IsSortedBy lt (x ∷ xs) → IsSortedBy lt xs
  sorted_rest x xs up k d from within =
      let later : suc k + 1 ≡ suc (k + 1) = omega arith in
      rw later at (up (suc k) d (omega arith) (omega arith))

  takes_first : (z x : X) (xs : List X) → ties lt z x ≡ true → filter (ties lt z) (x ∷ xs) ≡ x ∷ filter (ties lt z) xs
  takes_first z x xs e = ap (λ b. cond b (x ∷ filter (ties lt z) xs) (filter (ties lt z) xs)) e

  -- lists in order, in which what ties stands alike, are one
  pub one_order : (xs ys : List X) → IsSortedBy lt xs → IsSortedBy lt ys → IsStableBy lt xs ys → xs ≡ ys
  one_order [] [] up up' stable = refl
  one_order [] (y ∷ ys) up up' stable =
      let some : y ∷ filter (ties lt y) ys ≡ [] = sym (takes_first y y ys (ties_itself y)) ∙ stable y in
      absurd cc
  one_order (x ∷ xs) [] up up' stable =
      let some : x ∷ filter (ties lt x) xs ≡ [] = sym (takes_first x x xs (ties_itself x)) ∙ sym (stable x) in
      absurd cc
  one_order (x ∷ xs) (y ∷ ys) up up' stable =
      let of_y : filter (ties lt y) (x ∷ xs) ≡ y ∷ filter (ties lt y) ys = sym (stable y) ∙ takes_first y y ys (ties_itself y) in
      let of_x : filter (ties lt x) (y ∷ ys) ≡ x ∷ filter (ties lt x) xs = stable x ∙ takes_first x x xs (ties_itself x) in
      let tie : ties lt x y ≡ true = tied x y (not_below x y ys x (filter (ties lt x) xs) up' of_x) (not_below y x xs y (filter (ties lt y) ys) up of_y) in
      let heads : y ∷ filter (ties lt x) ys ≡ x ∷ filter (ties lt x) xs = sym (takes_first x y ys tie) ∙ of_x in
      let first : y ≡ x = cc in
      let rest = one_order xs ys (sorted_rest x xs up) (sorted_rest y ys up')
      (λ z. same_rest z x (filter (ties lt z) ys) (filter (ties lt z) xs) (ties lt z x) (ap (λ it. cond (ties lt z it) (it ∷ filter (ties lt z) ys) (filter (ties lt z) ys)) (sym first) ∙ stable z)) in
      cc
    where
      same_rest : (z x : X) (a b : List X) (t : Bool) → cond t (x ∷ a) a ≡ cond t (x ∷ b) b → a ≡ b
      same_rest z x a b true e = cc
      same_rest z x a b false e = e

abbrev pub less : Value → Value → Bool
less v w = is_lt (value_cmp v w)

pub less_order : IsStrictWeakOrder less
less_order = ranks_by value_total (λ v. v)

-- the insertion sort is stable
inserted_stable : (z v : Value) (ws : List Value) → filter (ties less z) (insert_value v ws) ≡ filter (ties less z) (v ∷ ws)
inserted_stable z v [] = refl
inserted_stable z v (w ∷ ws) = by_test (less w v) refl (inserted_stable z v ws)
  where
    swapped : (of_v of_w : Bool) (rest : List Value) → ties less z v ≡ of_v → ties less z w ≡ of_w → less w v ≡ true
        → cond of_w (w ∷ cond of_v (v ∷ rest) rest) (cond of_v (v ∷ rest) rest) ≡ cond of_v (v ∷ cond of_w (w ∷ rest) rest) (cond of_w (w ∷ rest) rest)
    swapped true true rest e f below =
        let with_v = both_ways less less_order (less z v) (less v z) e in
        let with_w = both_ways less less_order (less z w) (less w z) f in
        absurd (true≢false (sym below ∙ less_order.chain w z v with_w.1 with_v.0))
    swapped true false rest e f below = refl
    swapped false true rest e f below = refl
    swapped false false rest e f below = refl

    by_test : (first : Bool) → less w v ≡ first → filter (ties less z) (insert_value v ws) ≡ filter (ties less z) (v ∷ ws)
        → filter (ties less z) (if first then w ∷ insert_value v ws else v ∷ w ∷ ws) ≡ filter (ties less z) (v ∷ w ∷ ws)
    by_test true below rest =
        ap (λ it. cond (ties less z w) (w ∷ it) it) rest ∙ swapped (ties less z v) (ties less z w) (filter (ties less z) ws) refl refl below
    by_test false below rest = refl

ascending_stable : (values : List Value) → IsStableBy less values (ascending values)
ascending_stable [] z = refl
ascending_stable (v ∷ vs) z = inserted_stable z v (ascending vs) ∙ ap (λ it. cond (ties less z v) (v ∷ it) it) (ascending_stable vs z)

-- what a stable sort leaves
pub stable_sort_is_ascending : (values sorted : List Value) → IsSortedBy less sorted → IsStableBy less values sorted → sorted ≡ ascending values
stable_sort_is_ascending values sorted up stable =
    sym (one_order less less_order (ascending values) sorted (ascending_sorted values) up (λ z. stable z ∙ sym (ascending_stable values z)))

pub stable_from_sort_by : {F : Type 0} {g : Mut F (Bor Value × (Bor Value × Unit {0})) Ordering} {f : F} (xs ys : List Value) → IsStableByClosure g f xs ys
    → ((a : Bor Value × (Bor Value × Unit {0})) (r : Ordering) (f' : F) → Called g f a r f' → (r ≡ value_cmp a.0.now a.1.0.now) × (f' ≡ f))
    → IsStableBy less xs ys
stable_from_sort_by {g = g} {f = f} xs ys stable h =
    stable less less_order (always_returns_same g (λ a r. is_lt r ≡ less a.0.now a.1.0.now) f (λ a r f' k. (ap is_lt (h a r f' k).0, (h a r f' k).1)))
