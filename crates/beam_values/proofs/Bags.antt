-- Bags: what keeps two lists one bag.
use Rattle.std.proofs.Common.{◌≡◌, ℕ, ◌+◌, Bool, true, false, cond, List, [], ◌∷◌, ◌++◌, map, refl, sym, ap, ◌∙◌, arith}
use Rattle.std.specs.List.{sum_by, count_by, filter, flat_map}
use Rattle.std.specs.List.Sorted.{IsPermutation}
use Rattle.std.proofs.lemmas.List.Sums.{sum_by-cons, sum_by-append}
use Rattle.std.proofs.lemmas.List.Sorted.{sum_by-IsPermutation}
use Rattle.beam_values.specs.Bags.{IsSameBag}

pub bag_refl : {X : Type 0} (xs : List X) → IsSameBag xs xs
bag_refl xs = record { weighs = λ w. refl }

pub bag_sym : {X : Type 0} (xs ys : List X) → IsSameBag xs ys → IsSameBag ys xs
bag_sym xs ys h = record { weighs = λ w. sym (h.weighs w) }

pub bag_trans : {X : Type 0} (xs ys zs : List X) → IsSameBag xs ys → IsSameBag ys zs → IsSameBag xs zs
bag_trans xs ys zs h k = record { weighs = λ w. h.weighs w ∙ k.weighs w }

pub bag_from_same : {X : Type 0} (xs ys : List X) → xs ≡ ys → IsSameBag xs ys
bag_from_same xs ys e = record { weighs = λ w. ap (sum_by w) e }

pub bag_from_permutation : {X : Type 0} (xs ys : List X) → IsPermutation xs ys → IsSameBag xs ys
bag_from_permutation xs ys h = record { weighs = λ w. sym (sum_by-IsPermutation w xs ys h) }

pub bag_append : {X : Type 0} (xs ys us vs : List X) → IsSameBag xs ys → IsSameBag us vs → IsSameBag (xs ++ us) (ys ++ vs)
bag_append xs ys us vs h k = record {
  weighs = λ w. omega (arith, sum_by-append w xs us, sum_by-append w ys vs, h.weighs w, k.weighs w);
}

-- the order of two lists that are joined is no matter
pub bag_swap : {X : Type 0} (xs ys : List X) → IsSameBag (xs ++ ys) (ys ++ xs)
bag_swap xs ys = record { weighs = λ w. omega (arith, sum_by-append w xs ys, sum_by-append w ys xs) }

-- an item may stand anywhere
pub bag_middle : {X : Type 0} (xs : List X) (x : X) (ys : List X) → IsSameBag (xs ++ x ∷ ys) (x ∷ (xs ++ ys))
bag_middle xs x ys = record {
  weighs = λ w. omega (arith, sum_by-append w xs (x ∷ ys), sum_by-append w xs ys, sum_by-cons w x ys, sum_by-cons w x (xs ++ ys));
}

pub bag_cons : {X : Type 0} (x : X) (xs ys : List X) → IsSameBag xs ys → IsSameBag (x ∷ xs) (x ∷ ys)
bag_cons x xs ys h = record { weighs = λ w. omega (arith, sum_by-cons w x xs, sum_by-cons w x ys, h.weighs w) }

pub bag_cancel : {X : Type 0} (zs xs ys : List X) → IsSameBag (zs ++ xs) (zs ++ ys) → IsSameBag xs ys
bag_cancel zs xs ys h = record { weighs = λ w. omega (arith, sum_by-append w zs xs, sum_by-append w zs ys, h.weighs w) }

pub sum_by-map : {X Y : Type 0} (w : Y → ℕ) (f : X → Y) (xs : List X) → sum_by w (map f xs) ≡ sum_by (λ x. w (f x)) xs
sum_by-map w f [] = refl
sum_by-map w f (x ∷ xs) = omega (arith, sum_by-cons w (f x) (map f xs), sum_by-cons (λ y. w (f y)) x xs, sum_by-map w f xs)

pub sum_by-flat_map : {X Y : Type 0} (w : Y → ℕ) (f : X → List Y) (xs : List X) → sum_by w (flat_map f xs) ≡ sum_by (λ x. sum_by w (f x)) xs
sum_by-flat_map w f [] = refl
sum_by-flat_map w f (x ∷ xs) =
    omega (arith, sum_by-append w (f x) (flat_map f xs), sum_by-cons (λ y. sum_by w (f y)) x xs, sum_by-flat_map w f xs)

pub sum_by-filter : {X : Type 0} (w : X → ℕ) (p : X → Bool) (xs : List X) → sum_by w (filter p xs) ≡ sum_by (λ x. cond (p x) (w x) 0) xs
sum_by-filter w p [] = refl
sum_by-filter w p (x ∷ xs) = one_more (p x) (sum_by-filter w p xs) ∙ sym (sum_by-cons (λ y. cond (p y) (w y) 0) x xs)
  where
    one_more : (b : Bool) → sum_by w (filter p xs) ≡ sum_by (λ y. cond (p y) (w y) 0) xs
        → sum_by w (cond b (x ∷ filter p xs) (filter p xs)) ≡ cond b (w x) 0 + sum_by (λ y. cond (p y) (w y) 0) xs
    one_more true h = omega (arith, sum_by-cons w x (filter p xs))
    one_more false h = omega arith

pub bag_map : {X Y : Type 0} (f : X → Y) (xs ys : List X) → IsSameBag xs ys → IsSameBag (map f xs) (map f ys)
bag_map f xs ys h = record { weighs = λ w. sum_by-map w f xs ∙ h.weighs (λ x. w (f x)) ∙ sym (sum_by-map w f ys) }

pub bag_flat_map : {X Y : Type 0} (f : X → List Y) (xs ys : List X) → IsSameBag xs ys → IsSameBag (flat_map f xs) (flat_map f ys)
bag_flat_map f xs ys h = record {
  weighs = λ w. sum_by-flat_map w f xs ∙ h.weighs (λ x. sum_by w (f x)) ∙ sym (sum_by-flat_map w f ys);
}

pub bag_filter : {X : Type 0} (p : X → Bool) (xs ys : List X) → IsSameBag xs ys → IsSameBag (filter p xs) (filter p ys)
bag_filter p xs ys h = record {
  weighs = λ w. sum_by-filter w p xs ∙ h.weighs (λ x. cond (p x) (w x) 0) ∙ sym (sum_by-filter w p ys);
}

pub bag_count : {X : Type 0} (p : X → Bool) (xs ys : List X) → IsSameBag xs ys → count_by p xs ≡ count_by p ys
bag_count p xs ys h = h.weighs (λ x. cond (p x) 1 0)
