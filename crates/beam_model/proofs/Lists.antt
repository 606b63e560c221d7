-- Facts of each element, by recursion on the list; sums of a list.
use Rattle.std.proofs.Common.{◌≡◌, ℕ, ◌+◌, refl, ap, arith, List, [], ◌∷◌, ◌++◌, map}
use Rattle.std.specs.List.{All, AllByRecursion, flat_map, sum_by}
use Rattle.std.proofs.lemmas.List.Elements.{All-head, All-tail}
use Rattle.std.proofs.lemmas.List.Sums.{sum_by-cons}

module _ {X : Type 0} (P : X → Type 0) where
  pub each-append : (xs ys : List X) → AllByRecursion P xs → AllByRecursion P ys → AllByRecursion P (xs ++ ys)
  each-append [] ys h k = k
  each-append (x ∷ xs) ys h k = (h.0, each-append xs ys h.1 k)

  pub each-flat_map : {Y : Type 0} (f : Y → List X) → ((y : Y) → AllByRecursion P (f y)) → (ys : List Y) → AllByRecursion P (flat_map f ys)
  each-flat_map f h [] = tt
  each-flat_map f h (y ∷ ys) = each-append (f y) (flat_map f ys) (h y) (each-flat_map f h ys)

  pub each-map : {Y : Type 0} (f : Y → X) → ((y : Y) → P (f y)) → (ys : List Y) → AllByRecursion P (map f ys)
  each-map f h [] = tt
  each-map f h (y ∷ ys) = (h y, each-map f h ys)

pub sum_by-same : {X : Type 0} (f g : X → ℕ) (xs : List X) → ((x : X) → f x ≡ g x) → sum_by f xs ≡ sum_by g xs
sum_by-same f g xs h = ap (λ (w : _ → ℕ). sum_by w xs) (λ i x. h x i)

pub sum_by-add : {X : Type 0} (f g : X → ℕ) (xs : List X) → sum_by (λ x. f x + g x) xs ≡ sum_by f xs + sum_by g xs
sum_by-add f g [] = refl
sum_by-add f g (x ∷ xs) = omega (arith, sum_by-cons (λ y. f y + g y) x xs, sum_by-cons f x xs, sum_by-cons g x xs, sum_by-add f g xs)

pub sum_none : {X : Type 0} (w : X → ℕ) (xs : List X) → All (λ x. w x ≡ 0) xs → sum_by w xs ≡ 0
sum_none w [] h = refl
sum_none w (x ∷ xs) h = omega (arith, sum_by-cons w x xs, All-head (λ y. w y ≡ 0) x xs h, sum_none w xs (All-tail (λ y. w y ≡ 0) x xs h))
