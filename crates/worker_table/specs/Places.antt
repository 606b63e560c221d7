-- One place of a list is set, or one more is put behind it: what the list has then.
use Rattle.std.proofs.Common.{◌≡◌, ◌≢◌, ◌⊎◌, inl, inr, ℕ, zero, suc, ◌+◌, List, [], ◌∷◌, ◌++◌, length, refl, sym, ap, ◌∙◌, arith}
use Rattle.std.specs.Prelude.{Some, slice_get, slice_set}
use Rattle.std.specs.List.{AllByRecursion, sum_by}
use Rattle.std.proofs.lemmas.List.Sums.{sum_by-set}
use Rattle.std.proofs.lemmas.Option.{slice_get_within, get_or_from_slice_get}

pub is_or_not : (j i : ℕ) → (j ≡ i) ⊎ (j ≢ i)
is_or_not zero zero = inl refl
is_or_not zero (suc i) = inr (λ e. omega (arith, e))
is_or_not (suc j) zero = inr (λ e. omega (arith, e))
is_or_not (suc j) (suc i) = elim (is_or_not j i) as (λ _. (suc j ≡ suc i) ⊎ (suc j ≢ suc i)) [ inl e ↦ inl (ap suc e) | inr d ↦ inr (λ e. d (omega (arith, e))) ]

pub set_here : {X : Type 0} (xs : List X) (i : ℕ) (x y : X) → slice_get xs i ≡ Some x → slice_get (slice_set xs i y) i ≡ Some y
set_here [] i x y h = cc
set_here (z ∷ zs) zero x y h = refl
set_here (z ∷ zs) (suc i) x y h = set_here zs i x y h

pub set_elsewhere : {X : Type 0} (xs : List X) (i j : ℕ) (y : X) → j ≢ i → slice_get (slice_set xs i y) j ≡ slice_get xs j
set_elsewhere [] i j y d = refl
set_elsewhere (z ∷ zs) zero zero y d = absurd (d refl)
set_elsewhere (z ∷ zs) zero (suc j) y d = refl
set_elsewhere (z ∷ zs) (suc i) zero y d = refl
set_elsewhere (z ∷ zs) (suc i) (suc j) y d = set_elsewhere zs i j y (λ e. d (ap suc e))

pub set_only : {X : Type 0} (xs : List X) (i : ℕ) (y x : X) → slice_get (slice_set xs i y) i ≡ Some x → y ≡ x
set_only [] i y x h = cc
set_only (z ∷ zs) zero y x h = cc
set_only (z ∷ zs) (suc i) y x h = set_only zs i y x h

pub set_as_it_was : {X : Type 0} (xs : List X) (i : ℕ) (x y : X) → slice_get xs i ≡ Some x → y ≡ x → slice_set xs i y ≡ xs
set_as_it_was [] i x y h e = refl
set_as_it_was (z ∷ zs) zero x y h e = let w : z ≡ x = cc in ap (λ k. k ∷ zs) (e ∙ sym w)
set_as_it_was (z ∷ zs) (suc i) x y h e = ap (λ k. z ∷ k) (set_as_it_was zs i x y h e)

pub set_length : {X : Type 0} (xs : List X) (i : ℕ) (y : X) → length (slice_set xs i y) ≡ length xs
set_length [] i y = refl
set_length (z ∷ zs) zero y = refl
set_length (z ∷ zs) (suc i) y = ap suc (set_length zs i y)

pub end_here : {X : Type 0} (xs : List X) (y : X) (j : ℕ) → j ≡ length xs → slice_get (xs ++ y ∷ []) j ≡ Some y
end_here [] y zero e = refl
end_here [] y (suc j) e = absurd (omega arith)
end_here (z ∷ zs) y zero e = absurd (omega arith)
end_here (z ∷ zs) y (suc j) e = end_here zs y j (omega arith)

pub end_elsewhere : {X : Type 0} (xs : List X) (y : X) (j : ℕ) → j ≢ length xs → slice_get (xs ++ y ∷ []) j ≡ slice_get xs j
end_elsewhere [] y zero d = absurd (d refl)
end_elsewhere [] y (suc j) d = refl
end_elsewhere (z ∷ zs) y zero d = refl
end_elsewhere (z ∷ zs) y (suc j) d = end_elsewhere zs y j (λ e. d (omega (arith, e)))

-- what holds of each, where one is set or put behind
pub each_set : {X : Type 0} (P : X → Type 0) (xs : List X) (i : ℕ) (y : X) → P y → AllByRecursion P xs → AllByRecursion P (slice_set xs i y)
each_set P [] i y h all = tt
each_set P (z ∷ zs) zero y h all = (h, all.1)
each_set P (z ∷ zs) (suc i) y h all = (all.0, each_set P zs i y h all.1)

pub each_behind : {X : Type 0} (P : X → Type 0) (xs : List X) (y : X) → P y → AllByRecursion P xs → AllByRecursion P (xs ++ y ∷ [])
each_behind P [] y h all = (h, tt)
each_behind P (z ∷ zs) y h all = (all.0, each_behind P zs y h all.1)

pub sum_set : {X : Type 0} (f : X → ℕ) (xs : List X) (i : ℕ) (x y : X) → slice_get xs i ≡ Some x → sum_by f (slice_set xs i y) + f x ≡ sum_by f xs + f y
sum_set f xs i x y h = omega (arith, sum_by-set f xs i y x (slice_get_within xs i x h), ap f (get_or_from_slice_get xs i x x h))
