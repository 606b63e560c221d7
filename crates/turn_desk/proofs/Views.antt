-- Lists of which one member changes, or which get one more: what holds of each member, of each two, and sums.
use Rattle.std.proofs.Common.{◌≡◌, ℕ, zero, suc, ◌+◌, ◌<◌, ◌≤◌, ◌⊎◌, List, [], ◌∷◌, ◌++◌, length, set, sum_by, sym, refl, ap, ◌∙◌, subst, inl, inr, ⊎_elim, arith}
use Rattle.std.proofs.lemmas.List.Sums.{sum_by-cons}
use mathlib.Core.Option.{some, some-injective, some-ne-none}
use lib.ListN.{get_elem?}
use Rattle.atomic_table.proofs.Lists.{at_set}

module _ {W : Type 0} where
  pub inside : (vs : List W) (i : ℕ) (v : W) → get_elem? vs i ≡ some v → i < length vs
  inside [] i v at = absurd (some-ne-none v (sym at))
  inside (x ∷ xs) zero v at = omega arith
  inside (x ∷ xs) (suc i) v at = (let l = inside xs i v at in omega arith)

  pub same_at : (vs : List W) (i : ℕ) (v w : W) → get_elem? vs i ≡ some v → get_elem? vs i ≡ some w → v ≡ w
  same_at vs i v w a b = some-injective v w (sym a ∙ b)

  -- a fact of each member, where the member at i became w
  pub each_set : (P : ℕ → W → Type 0) (vs : List W) (i : ℕ) (w : W) → P i w → ((j : ℕ) (d : W) → ¬ (j ≡ i) → get_elem? vs j ≡ some d → P j d)
      → (j : ℕ) (d : W) → get_elem? (set vs i w) j ≡ some d → P j d
  each_set P vs i w mine others j d at = ⊎_elim (λ (t : (j ≡ i) × (w ≡ d)). subst (λ (z : ℕ × W). P z.0 z.1) (λ k. (sym t.0 k, t.1 k)) mine)
      (λ (t : (¬ (j ≡ i)) × (get_elem? vs j ≡ some d)). others j d t.0 t.1) (at_set vs i j w d at)

  pub set_swap : (vs : List W) (i j : ℕ) (v w : W) → ¬ (j ≡ i) → set (set vs i v) j w ≡ set (set vs j w) i v
  set_swap [] i j v w away = refl
  set_swap (x ∷ xs) zero zero v w away = absurd (away refl)
  set_swap (x ∷ xs) zero (suc j) v w away = refl
  set_swap (x ∷ xs) (suc i) zero v w away = refl
  set_swap (x ∷ xs) (suc i) (suc j) v w away = ap (λ (l : List W). x ∷ l) (set_swap xs i j v w (λ e. away (ap suc e)))

  pub at_end : (vs : List W) (w d : W) (j : ℕ) → get_elem? (vs ++ w ∷ []) j ≡ some d → (get_elem? vs j ≡ some d) ⊎ ((j ≡ length vs) × (w ≡ d))
  at_end [] w d zero at = inr (refl, some-injective w d at)
  at_end [] w d (suc j) at = absurd (some-ne-none d (sym at))
  at_end (x ∷ xs) w d zero at = inl at
  at_end (x ∷ xs) w d (suc j) at = ⊎_elim (λ a. inl a) (λ t. inr ((let e = t.0 in omega arith), t.1)) (at_end xs w d j at)

  -- a fact of each member, where w came to the end
  pub each_longer : (P : ℕ → W → Type 0) (vs : List W) (w : W) → P (length vs) w → ((j : ℕ) (d : W) → get_elem? vs j ≡ some d → P j d)
      → (j : ℕ) (d : W) → get_elem? (vs ++ w ∷ []) j ≡ some d → P j d
  each_longer P vs w mine others j d at = ⊎_elim (others j d) (λ (t : (j ≡ length vs) × (w ≡ d)). subst (λ (z : ℕ × W). P z.0 z.1) (λ k. (sym t.0 k, t.1 k)) mine) (at_end vs w d j at)

  module _ (R : W → W → Type 0) where
    abbrev pub Pairs : List W → Type 0
    Pairs vs = (i j : ℕ) (v w : W) → ¬ (i ≡ j) → get_elem? vs i ≡ some v → get_elem? vs j ≡ some w → R v w

    -- a fact of each two members, where the member at i became w
    pub pairs_set : (vs : List W) (i : ℕ) (w : W) → ((j : ℕ) (d : W) → ¬ (j ≡ i) → get_elem? vs j ≡ some d → R w d × R d w) → Pairs vs → Pairs (set vs i w)
    pairs_set vs i w mine others j k d e apart at at' = each_set (λ j d. ¬ (j ≡ k) → R d e) vs i w
        (λ n. each_set (λ k e. ¬ (i ≡ k) → R w e) vs i w (λ m. absurd (m refl)) (λ k e m a _. (mine k e m a).0) k e at' n)
        (λ j d away a. each_set (λ k e. ¬ (j ≡ k) → R d e) vs i w (λ _. (mine j d away a).1) (λ k e _ b n. others j k d e n a b) k e at') j d at apart

    pub pairs_longer : (vs : List W) (w : W) → ((j : ℕ) (d : W) → get_elem? vs j ≡ some d → R w d × R d w) → Pairs vs → Pairs (vs ++ w ∷ [])
    pairs_longer vs w mine others j k d e apart at at' = each_longer (λ j d. ¬ (j ≡ k) → R d e) vs w
        (λ n. each_longer (λ k e. ¬ (length vs ≡ k) → R w e) vs w (λ m. absurd (m refl)) (λ k e a _. (mine k e a).0) k e at' n)
        (λ j d a. each_longer (λ k e. ¬ (j ≡ k) → R d e) vs w (λ _. (mine j d a).1) (λ k e b n. others j k d e n a b) k e at') j d at apart

  pub sum_set : (f : W → ℕ) (vs : List W) (i : ℕ) (v w : W) → get_elem? vs i ≡ some v → sum_by f (set vs i w) + f v ≡ sum_by f vs + f w
  sum_set f [] i v w at = absurd (some-ne-none v (sym at))
  sum_set f (x ∷ xs) zero v w at = (let e = ap f (some-injective x v at) in omega (arith, sum_by-cons f x xs, sum_by-cons f w xs))
  sum_set f (x ∷ xs) (suc i) v w at = omega (arith, sum_by-cons f x xs, sum_by-cons f x (set xs i w), sum_set f xs i v w at)

  pub sum_least : (f : W → ℕ) (vs : List W) (i : ℕ) (v : W) → get_elem? vs i ≡ some v → f v ≤ sum_by f vs
  sum_least f [] i v at = absurd (some-ne-none v (sym at))
  sum_least f (x ∷ xs) zero v at = (let e = ap f (some-injective x v at) in omega (arith, sum_by-cons f x xs))
  sum_least f (x ∷ xs) (suc i) v at = omega (arith, sum_by-cons f x xs, sum_least f xs i v at)

  pub sum_of_two : (f : W → ℕ) (vs : List W) (i j : ℕ) (v w : W) → ¬ (i ≡ j) → get_elem? vs i ≡ some v → get_elem? vs j ≡ some w → f v + f w ≤ sum_by f vs
  sum_of_two f [] i j v w apart at at' = absurd (some-ne-none v (sym at))
  sum_of_two f (x ∷ xs) zero zero v w apart at at' = absurd (apart refl)
  sum_of_two f (x ∷ xs) zero (suc j) v w apart at at' = (let e = ap f (some-injective x v at) in omega (arith, sum_by-cons f x xs, sum_least f xs j w at'))
  sum_of_two f (x ∷ xs) (suc i) zero v w apart at at' = (let e = ap f (some-injective x w at') in omega (arith, sum_by-cons f x xs, sum_least f xs i v at))
  sum_of_two f (x ∷ xs) (suc i) (suc j) v w apart at at' = omega (arith, sum_by-cons f x xs, sum_of_two f xs i j v w (λ e. apart (ap suc e)) at at')

  pub sum_below : (f h : W → ℕ) (vs : List W) → ((j : ℕ) (v : W) → get_elem? vs j ≡ some v → f v ≤ h v) → sum_by f vs ≤ sum_by h vs
  sum_below f h [] le = omega arith
  sum_below f h (x ∷ xs) le = (let a = le 0 x refl in omega (arith, sum_by-cons f x xs, sum_by-cons h x xs, sum_below f h xs (λ j v at. le (suc j) v at)))
