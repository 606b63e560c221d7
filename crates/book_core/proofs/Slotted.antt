-- Sums and facts over the jobs of all slots, where one slot is set.
use Rattle.std.proofs.Common.{◌≡◌, ℕ, ◌+◌, List, [], ◌∷◌, ◌++◌, length, refl, arith}
use Rattle.std.specs.Prelude.{Some, slice_get, slice_set}
use Rattle.std.specs.List.{All, flat_map, sum_by}
use Rattle.std.proofs.lemmas.List.Elements.{All-nil, All-cons, All-head, All-tail, All-append, All-set}
use Rattle.std.proofs.lemmas.List.Sums.{sum_by-cons}
use Rattle.beam_values.proofs.Bags.{sum_by-flat_map}
use Rattle.book_core.proofs.Slots.{set_weighs, All-slice_get}

pub All-append_left : {X : Type 0} (P : X → Type 0) (xs ys : List X) → All P (xs ++ ys) → All P xs
All-append_left P [] ys h = All-nil P
All-append_left P (x ∷ xs) ys h = All-cons P x xs (All-head P x (xs ++ ys) h) (All-append_left P xs ys (All-tail P x (xs ++ ys) h))

pub All-append_right : {X : Type 0} (P : X → Type 0) (xs ys : List X) → All P (xs ++ ys) → All P ys
All-append_right P [] ys h = h
All-append_right P (x ∷ xs) ys h = All-append_right P xs ys (All-tail P x (xs ++ ys) h)

pub All-flat_map : {X Y : Type 0} (P : Y → Type 0) (f : X → List Y) (xs : List X) → All (λ x. All P (f x)) xs → All P (flat_map f xs)
All-flat_map P f [] h = All-nil P
All-flat_map P f (x ∷ xs) h =
    All-append P (f x) (flat_map f xs) (All-head (λ y. All P (f y)) x xs h) (All-flat_map P f xs (All-tail (λ y. All P (f y)) x xs h))

pub All-of_flat_map : {X Y : Type 0} (P : Y → Type 0) (f : X → List Y) (xs : List X) → All P (flat_map f xs) → All (λ x. All P (f x)) xs
All-of_flat_map P f [] h = All-nil (λ x. All P (f x))
All-of_flat_map P f (x ∷ xs) h =
    All-cons (λ y. All P (f y)) x xs (All-append_left P (f x) (flat_map f xs) h) (All-of_flat_map P f xs (All-append_right P (f x) (flat_map f xs) h))

module _ {X Y : Type 0} (f : X → List Y) (xs : List X) (i : ℕ) where
  -- a fact of all jobs and of the new ones is one of all jobs afterwards
  pub All-flat_set : (P : Y → Type 0) (new : X) → All P (f new) → All P (flat_map f xs) → All P (flat_map f (slice_set xs i new))
  All-flat_set P new one all = All-flat_map P f (slice_set xs i new) (All-set (λ x. All P (f x)) xs i new one (All-of_flat_map P f xs all))

  pub All-flat_at : (P : Y → Type 0) (old : X) → slice_get xs i ≡ Some old → All P (flat_map f xs) → All P (f old)
  All-flat_at P old at all = All-slice_get (λ x. All P (f x)) xs i old at (All-of_flat_map P f xs all)

  pub flat_set_weighs : (w : Y → ℕ) (old new : X) → slice_get xs i ≡ Some old
      → sum_by w (flat_map f (slice_set xs i new)) + sum_by w (f old) ≡ sum_by w (flat_map f xs) + sum_by w (f new)
  flat_set_weighs w old new at =
      omega (
        arith,
        set_weighs (λ x. sum_by w (f x)) xs i old new at,
        sum_by-flat_map w f (slice_set xs i new),
        sum_by-flat_map w f xs,
      )

pub one_weighs : {X : Type 0} (w : X → ℕ) (x : X) → sum_by w (x ∷ []) ≡ w x
one_weighs w x = omega (arith, sum_by-cons w x [])

pub sum_ones : {X : Type 0} (xs : List X) → sum_by (λ x. 1) xs ≡ length xs
sum_ones {X} [] = refl
sum_ones {X} (x ∷ xs) = omega (arith, sum_by-cons (λ (y : X). 1) x xs, sum_ones xs)
