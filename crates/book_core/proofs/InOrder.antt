-- Lists in order: what is put behind the lower ones leaves them in order.
use Rattle.std.proofs.Common.{◌≡◌, ℕ, zero, suc, get_or, ◌+◌, Bool, true, false, cond, List, [], ◌∷◌, refl, subst, arith, Ordering}
use Rattle.std.specs.List.Sorted.{IsSorted}
use Rattle.std.specs.Ordering.{is_lt}
use Rattle.std.specs.Cmp.{IsTotalOrder}
use Rattle.std.proofs.lemmas.List.Sorted.{ranks_by}

module _ {X : Type 0} (cmp : X → X → Ordering) where
  abbrev pub NoneBelow : X → List X → Type 0
  NoneBelow d [] = Unit {0}
  NoneBelow d (x ∷ xs) = is_lt (cmp x d) ≡ false

  sorted_more : (x : X) (xs : List X) → NoneBelow x xs → IsSorted cmp xs → IsSorted cmp (x ∷ xs)
  sorted_more x [] low up k d from within = absurd (omega arith)
  sorted_more x (y ∷ ys) low up zero d from within = low
  sorted_more x (y ∷ ys) low up (suc k) d from within =
      let e : suc (k + 1) ≡ suc k + 1 = omega arith in
      subst (λ (n : ℕ). is_lt (cmp (get_or (x ∷ y ∷ ys) n d) (get_or (y ∷ ys) k d)) ≡ false) e (up k d (omega arith) (omega arith))

  pub sorted_first : (x : X) (xs : List X) → IsSorted cmp (x ∷ xs) → NoneBelow x xs
  sorted_first x [] up = tt
  sorted_first x (y ∷ ys) up = up 0 x (omega arith) (omega arith)

  pub sorted_rest : (x : X) (xs : List X) → IsSorted cmp (x ∷ xs) → IsSorted cmp xs
  sorted_rest x xs up k d from within =
      let e : suc k + 1 ≡ suc (k + 1) = omega arith in
      subst (λ (n : ℕ). is_lt (cmp (get_or (x ∷ xs) n d) (get_or xs k d)) ≡ false) e (up (suc k) d (omega arith) (omega arith))

  pub sorted_none : IsSorted cmp []
  sorted_none k d from within = absurd (omega arith)

  -- an element is put behind those that are lower
  abbrev pub put : X → List X → List X
  put new [] = new ∷ []
  put new (x ∷ xs) = cond (is_lt (cmp x new)) (x ∷ put new xs) (new ∷ x ∷ xs)

  none_below_put : (d new : X) (xs : List X) → is_lt (cmp new d) ≡ false → NoneBelow d xs → NoneBelow d (put new xs)
  none_below_put d new [] e low = e
  none_below_put d new (x ∷ xs) e low = by (is_lt (cmp x new))
    where
      by : (t : Bool) → NoneBelow d (cond t (x ∷ put new xs) (new ∷ x ∷ xs))
      by true = low
      by false = e

  pub sorted_put : IsTotalOrder cmp → (new : X) (xs : List X) → IsSorted cmp xs → IsSorted cmp (put new xs)
  sorted_put total new [] up = sorted_more new [] tt up
  sorted_put total new (x ∷ xs) up = by (is_lt (cmp x new)) refl (sorted_put total new xs (sorted_rest x xs up))
    where
      by : (t : Bool) → is_lt (cmp x new) ≡ t → IsSorted cmp (put new xs) → IsSorted cmp (cond t (x ∷ put new xs) (new ∷ x ∷ xs))
      by true e behind =
          sorted_more x (put new xs)
          (none_below_put x new xs ((ranks_by total (λ (y : X). y)).one_way x new e) (sorted_first x xs up)) behind
      by false e behind = sorted_more new (x ∷ xs) e up
