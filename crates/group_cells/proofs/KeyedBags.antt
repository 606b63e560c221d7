-- Two lists are one bag where, of each class of items, they have the same bag.
use Rattle.std.proofs.Common.{◌≡◌, ℕ, zero, suc, ◌+◌, ◌≤◌, Bool, true, false, cond, List, [], ◌∷◌, length, refl, sym, ap, subst, ◌∙◌, arith}
use Rattle.std.specs.Prelude.{not}
use Rattle.std.specs.List.{All, sum_by, filter}
use Rattle.std.proofs.lemmas.List.Elements.{All-head, All-filter}
use Rattle.std.proofs.lemmas.List.Sums.{sum_by-cons}
use Rattle.beam_values.specs.Bags.{IsSameBag}
use Rattle.beam_values.proofs.Bags.{bag_filter, bag_refl}

-- a list weighs what its two parts do
parts_weigh : {X : Type 0} (weight : X → ℕ) (p : X → Bool) (xs : List X) → sum_by weight (filter p xs) + sum_by weight (filter (λ x. not (p x)) xs) ≡ sum_by weight xs
parts_weigh weight p [] = refl
parts_weigh weight p (x ∷ xs) = by (p x) (parts_weigh weight p xs)
  where
    by : (b : Bool) → sum_by weight (filter p xs) + sum_by weight (filter (λ y. not (p y)) xs) ≡ sum_by weight xs
        → sum_by weight (cond b (x ∷ filter p xs) (filter p xs)) + sum_by weight (cond (not b) (x ∷ filter (λ y. not (p y)) xs) (filter (λ y. not (p y)) xs)) ≡ sum_by weight (x ∷ xs)
    by true rest = omega (arith, sum_by-cons weight x xs, sum_by-cons weight x (filter p xs))
    by false rest = omega (arith, sum_by-cons weight x xs, sum_by-cons weight x (filter (λ y. not (p y)) xs))

-- two tests in either order
filter_twice : {X : Type 0} (p q : X → Bool) (xs : List X) → filter p (filter q xs) ≡ filter q (filter p xs)
filter_twice p q [] = refl
filter_twice p q (x ∷ xs) = by (p x) (q x) refl refl (filter_twice p q xs)
  where
    by : (a b : Bool) → p x ≡ a → q x ≡ b → filter p (filter q xs) ≡ filter q (filter p xs)
        → filter p (cond b (x ∷ filter q xs) (filter q xs)) ≡ filter q (cond a (x ∷ filter p xs) (filter p xs))
    by true true e f rest =
        ap (λ t. cond t (x ∷ filter p (filter q xs)) (filter p (filter q xs))) e ∙ ap (λ l. x ∷ l) rest
        ∙ sym (ap (λ t. cond t (x ∷ filter q (filter p xs)) (filter q (filter p xs))) f)
    by true false e f rest = rest ∙ sym (ap (λ t. cond t (x ∷ filter q (filter p xs)) (filter q (filter p xs))) f)
    by false true e f rest = ap (λ t. cond t (x ∷ filter p (filter q xs)) (filter p (filter q xs))) e ∙ rest
    by false false e f rest = rest

no_longer : {X : Type 0} (p : X → Bool) (xs : List X) → length (filter p xs) ≤ length xs
no_longer p [] = omega arith
no_longer p (x ∷ xs) = by (p x) (no_longer p xs)
  where
    by : (b : Bool) → length (filter p xs) ≤ length xs → length (cond b (x ∷ filter p xs) (filter p xs)) ≤ suc (length xs)
    by true h = omega arith
    by false h = omega arith

-- `like x` tests for the class of x
module _ {X : Type 0} (P : X → Type 0) (like : X → X → Bool) (itself : (x : X) → like x x ≡ true) where
  fewer : (x : X) (xs : List X) → length (filter (λ y. not (like x y)) (x ∷ xs)) ≤ length xs
  fewer x xs =
      let gone : filter (λ y. not (like x y)) (x ∷ xs) ≡ filter (λ y. not (like x y)) xs =
      ap (λ b. cond (not b) (x ∷ filter (λ y. not (like x y)) xs) (filter (λ y. not (like x y)) xs)) (itself x) in
      omega (arith, ap (λ (l : List X). length l) gone, no_longer (λ y. not (like x y)) xs)

  others_alike : (x : X) (xs ys : List X) → ((y : X) → P y → IsSameBag (filter (like y) xs) (filter (like y) ys))
      → (y : X) → P y → IsSameBag (filter (like y) (filter (λ z. not (like x z)) xs)) (filter (like y) (filter (λ z. not (like x z)) ys))
  others_alike x xs ys alike y is =
      subst (λ (l : List X). IsSameBag l (filter (like y) (filter (λ z. not (like x z)) ys))) (filter_twice (λ z. not (like x z)) (like y) xs)
      (subst (λ (l : List X). IsSameBag (filter (λ z. not (like x z)) (filter (like y) xs)) l) (filter_twice (λ z. not (like x z)) (like y) ys)
      (bag_filter (λ z. not (like x z)) (filter (like y) xs) (filter (like y) ys) (alike y is)))

  -- the class of an item of a list is not empty
  not_none : (y : X) (ys : List X) → IsSameBag (filter (like y) []) (filter (like y) (y ∷ ys)) → ⊥
  not_none y ys same =
      let kept : filter (like y) (y ∷ ys) ≡ y ∷ filter (like y) ys = ap (λ b. cond b (y ∷ filter (like y) ys) (filter (like y) ys)) (itself y) in
      omega (arith, same.weighs (λ z. 1), ap (sum_by (λ z. 1)) kept, sum_by-cons (λ z. 1) y (filter (like y) ys))

  by_size : (n : ℕ) (xs ys : List X) → length xs ≤ n → All P xs → All P ys → ((x : X) → P x → IsSameBag (filter (like x) xs) (filter (like x) ys)) → IsSameBag xs ys
  by_size n [] [] small all others alike = bag_refl []
  by_size n [] (y ∷ ys) small all others alike = absurd (not_none y ys (alike y (All-head P y ys others)))
  by_size zero (x ∷ xs) ys small all others alike = absurd (omega arith)
  by_size (suc n) (x ∷ xs) ys small all others alike =
      let is = All-head P x xs all in
      let rest = by_size n (filter (λ z. not (like x z)) (x ∷ xs)) (filter (λ z. not (like x z)) ys) (omega (arith, fewer x xs))
      (All-filter (λ z. not (like x z)) P (x ∷ xs) all) (All-filter (λ z. not (like x z)) P ys others) (others_alike x (x ∷ xs) ys alike) in
      record {
        weighs = λ weight. omega (arith, (alike x is).weighs weight, rest.weighs weight, parts_weigh weight (like x) (x ∷ xs), parts_weigh weight (like x) ys);
      }

  pub one_bag : (xs ys : List X) → All P xs → All P ys → ((x : X) → P x → IsSameBag (filter (like x) xs) (filter (like x) ys)) → IsSameBag xs ys
  one_bag xs ys all others alike = by_size (length xs) xs ys (omega arith) all others alike
