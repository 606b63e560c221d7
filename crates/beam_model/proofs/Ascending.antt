-- The insertion of values in order.
use Rattle.std.proofs.Common.{◌≡◌, ℕ, zero, suc, ◌<◌, Bool, true, false, List, [], ◌∷◌, length, get_or, refl, ap, ◌∙◌, arith, add-one}
use Rattle.std.specs.Prelude.{if◌then◌else◌}
use Rattle.std.specs.declared.cmp.Ordering.{Ordering}
use Rattle.std.specs.declared.cmp.Ordering.TheVariants.{Less, Equal, Greater}
use Rattle.std.specs.Cmp.{IsTotalOrder}
use Rattle.std.specs.Ordering.{is_lt, ordering_reverse}
use Rattle.std.specs.List.Sorted.{IsSorted}
use Rattle.std.proofs.lemmas.Cmp.{nat_list_cmp_total, on_total}
use Rattle.std.proofs.lemmas.List.Sums.{sum_by-cons}
use Rattle.beam_values.specs.Bags.{IsSameBag}
use Rattle.beam_values.specs.Orders.{value_cmp}
use Rattle.beam_values.specs.Spelling.{spelling}
use Rattle.beam_values.specs.declared.value.Value.{Value}
use Rattle.beam_values.proofs.Bags.{bag_refl, bag_cons, bag_trans}
use Rattle.beam_model.specs.Functions.{insert_value, ascending}

pub value_total : IsTotalOrder value_cmp
value_total = on_total spelling nat_list_cmp_total

-- a value that is less than another is not above it
not_above : (v w : Value) → is_lt (value_cmp w v) ≡ true → is_lt (value_cmp v w) ≡ false
not_above v w less = ap is_lt (value_total.antisymm v w) ∙ turned (value_cmp w v) less
  where
    turned : (o : Ordering) → is_lt o ≡ true → is_lt (ordering_reverse o) ≡ false
    turned Less e = refl
    turned Equal e = absurd cc
    turned Greater e = absurd cc

-- the first of some values, if there is one, is not less than this one
abbrev IsUpTo : Value → List Value → Type 0
IsUpTo v [] = Unit {0}
IsUpTo v (w ∷ ws) = is_lt (value_cmp w v) ≡ false

abbrev Rises : List Value → Type 0
Rises [] = Unit {0}
Rises (v ∷ vs) = IsUpTo v vs × Rises vs

up_to_inserted : (u v : Value) (vs : List Value) → is_lt (value_cmp v u) ≡ false → IsUpTo u vs → IsUpTo u (insert_value v vs)
up_to_inserted u v [] h k = h
up_to_inserted u v (w ∷ ws) h k = by_test (is_lt (value_cmp w v))
  where
    by_test : (first : Bool) → IsUpTo u (if first then w ∷ insert_value v ws else v ∷ w ∷ ws)
    by_test true = k
    by_test false = h

inserted_rises : (v : Value) (vs : List Value) → Rises vs → Rises (insert_value v vs)
inserted_rises v [] h = (tt, tt)
inserted_rises v (w ∷ ws) h = by_test (is_lt (value_cmp w v)) refl (inserted_rises v ws h.1)
  where
    by_test : (first : Bool) → is_lt (value_cmp w v) ≡ first → Rises (insert_value v ws)
        → Rises (if first then w ∷ insert_value v ws else v ∷ w ∷ ws)
    by_test true e rest = (up_to_inserted w v ws (not_above v w e) h.0, rest)
    by_test false e rest = (e, h)

ascending_rises : (values : List Value) → Rises (ascending values)
ascending_rises [] = tt
ascending_rises (v ∷ vs) = inserted_rises v (ascending vs) (ascending_rises vs)

risen_at : (values : List Value) → Rises values → (k : ℕ) (d : Value) → suc k < length values
    → is_lt (value_cmp (get_or values (suc k) d) (get_or values k d)) ≡ false
risen_at [] h k d within = absurd (omega arith)
risen_at (v ∷ []) h k d within = absurd (omega arith)
risen_at (v ∷ w ∷ ws) h zero d within = h.0
risen_at (v ∷ w ∷ ws) h (suc k) d within = risen_at (w ∷ ws) h.1 k d (omega arith)

pub ascending_sorted : (values : List Value) → IsSorted value_cmp (ascending values)
ascending_sorted values k d from within = rw add-one (risen_at (ascending values) (ascending_rises values) k d (omega arith))

inserted_same : (v : Value) (vs : List Value) → IsSameBag (insert_value v vs) (v ∷ vs)
inserted_same v [] = bag_refl (v ∷ [])
inserted_same v (w ∷ ws) = by_test (is_lt (value_cmp w v)) (inserted_same v ws)
  where
    by_test : (first : Bool) → IsSameBag (insert_value v ws) (v ∷ ws)
        → IsSameBag (if first then w ∷ insert_value v ws else v ∷ w ∷ ws) (v ∷ w ∷ ws)
    by_test true same = record {
      weighs = λ weight.
          omega (arith, sum_by-cons weight w (insert_value v ws), same.weighs weight, sum_by-cons weight v ws, sum_by-cons weight v (w ∷ ws), sum_by-cons weight w ws);
    }
    by_test false same = bag_refl (v ∷ w ∷ ws)

pub ascending_same : (values : List Value) → IsSameBag (ascending values) values
ascending_same [] = bag_refl []
ascending_same (v ∷ vs) =
    bag_trans (insert_value v (ascending vs)) (v ∷ ascending vs) (v ∷ vs) (inserted_same v (ascending vs)) (bag_cons v (ascending vs) vs (ascending_same vs))
