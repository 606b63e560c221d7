-- Lists in order that are joined, and what a filter keeps.
use Rattle.std.proofs.Common.{◌≡◌, ◌⊎◌, inl, inr, ℕ, ◌+◌, ◌-◌, ◌<◌, ◌≤◌, Bool, true, false, cond, List, [], ◌∷◌, ◌++◌, length, get_or, take, drop, length-append, refl, sym, ap, subst, ◌∙◌, arith}
use Rattle.std.specs.List.{All, AllPairs, AllWithin, Contains, between, filter}
use Rattle.std.proofs.lemmas.Bool.{cases_lt}
use Rattle.std.proofs.lemmas.List.{get_or_append_left, get_or-append_right, get_or-append-add, get_or_default, get_or-take, get_or-drop, length-take, length-drop}
use Rattle.std.proofs.lemmas.List.Edits.{length-between, get_or-between}
use Rattle.std.proofs.lemmas.List.Elements.{All-contains, All-filter, All-contains_itself, All-weaker, filter_passes, Contains-append_right, Contains-append_cases, Contains-get_or}

module _ {X : Type 0} (R : X → X → Type 0) (xs ys : List X) where
  -- what stands in the first part comes before what stands in the second
  pub pairs_across : AllPairs R (xs ++ ys) → (a b : X) → Contains xs a → Contains ys b → R a b
  pairs_across all a b first second =
      let i = first.0 in
      let j = second.0 in
      let at_a : get_or (xs ++ ys) i a ≡ a = get_or_append_left xs ys a i first.1 ∙ first.2 in
      let at_b : get_or (xs ++ ys) (length xs + j) a ≡ b = get_or-append-add xs ys j a ∙ get_or_default ys j a b second.1 ∙ second.2 in
      subst (λ (x : X). R x b) at_a
      (subst (λ (y : X). R (get_or (xs ++ ys) i a) y) at_b
      (all i (length xs + j) a (omega (arith, first.1)) (omega (arith, second.1, length-append xs ys))))

  pub pairs_append : AllPairs R xs → AllPairs R ys → ((a b : X) → Contains xs a → Contains ys b → R a b) → AllPairs R (xs ++ ys)
  pairs_append front back across i j d before within = by_place (cases_lt i (length xs)) (cases_lt j (length xs))
    where
      in_front : (k : ℕ) → k < length xs → get_or xs k d ≡ get_or (xs ++ ys) k d
      in_front k lt = sym (get_or_append_left xs ys d k lt)

      in_back : (k : ℕ) → length xs ≤ k → get_or ys (k - length xs) d ≡ get_or (xs ++ ys) k d
      in_back k le = sym (get_or-append_right xs ys (length xs) k d refl le)

      short : (k : ℕ) → length xs ≤ k → k < length (xs ++ ys) → k - length xs < length ys
      short k le lt = omega (arith, length-append xs ys)

      by_place : (i < length xs) ⊎ (length xs ≤ i) → (j < length xs) ⊎ (length xs ≤ j) → R (get_or (xs ++ ys) i d) (get_or (xs ++ ys) j d)
      by_place (inl a) (inl b) =
          subst (λ (x : X). R x (get_or (xs ++ ys) j d)) (in_front i a) (subst (λ (y : X). R (get_or xs i d) y) (in_front j b) (front i j d before b))
      by_place (inl a) (inr b) =
          subst (λ (x : X). R x (get_or (xs ++ ys) j d)) (in_front i a)
          (subst (λ (y : X). R (get_or xs i d) y) (in_back j b)
          (across (get_or xs i d) (get_or ys (j - length xs) d) (Contains-get_or xs i d a) (Contains-get_or ys (j - length xs) d (short j b within))))
      by_place (inr a) (inl b) = absurd (omega arith)
      by_place (inr a) (inr b) =
          subst (λ (x : X). R x (get_or (xs ++ ys) j d)) (in_back i a)
          (subst (λ (y : X). R (get_or ys (i - length xs) d) y) (in_back j b)
          (back (i - length xs) (j - length xs) d (omega arith) (short j b within)))

  -- the parts of a list in order
  pub pairs_first : AllPairs R (xs ++ ys) → AllPairs R xs
  pairs_first all i j d before within =
      subst (λ (x : X). R x (get_or xs j d)) (get_or_append_left xs ys d i (omega arith))
      (subst (λ (y : X). R (get_or (xs ++ ys) i d) y) (get_or_append_left xs ys d j within)
      (all i j d before (omega (arith, length-append xs ys))))

  pub pairs_second : AllPairs R (xs ++ ys) → AllPairs R ys
  pairs_second all i j d before within =
      subst (λ (x : X). R x (get_or ys j d)) (get_or-append-add xs ys i d)
      (subst (λ (y : X). R (get_or (xs ++ ys) (length xs + i) d) y) (get_or-append-add xs ys j d)
      (all (length xs + i) (length xs + j) d (omega arith) (omega (arith, length-append xs ys))))

-- a list and one more in front
pub contains_first : {X : Type 0} (x : X) (xs : List X) → Contains (x ∷ xs) x
contains_first x xs = (0, omega arith, refl)

pub contains_later : {X : Type 0} (y : X) (xs : List X) (x : X) → Contains xs x → Contains (y ∷ xs) x
contains_later y xs x at = Contains-append_right (y ∷ []) xs x at

contained_alone : {X : Type 0} (y x : X) → Contains (y ∷ []) x → x ≡ y
contained_alone y x (k, within, same) = by (omega arith)
  where
    by : k ≡ 0 → x ≡ y
    by none = sym same ∙ ap (λ n. get_or (y ∷ []) n x) none

pub contains_cases : {X : Type 0} (y : X) (xs : List X) (x : X) → Contains (y ∷ xs) x → (x ≡ y) ⊎ Contains xs x
contains_cases y xs x at = elim (Contains-append_cases (y ∷ []) xs x at) [ inl first ↦ inl (contained_alone y x first) | inr later ↦ inr later ]

pub contains_filter : {X : Type 0} (p : X → Bool) (xs : List X) (x : X) → Contains xs x → p x ≡ true → Contains (filter p xs) x
contains_filter p [] x at is = absurd (omega (arith, at.1))
contains_filter {X} p (y ∷ ys) x at is = by (contains_cases y ys x at) (λ later. contains_filter p ys x later is)
  where
    kept : (b : Bool) → Contains (filter p ys) x → Contains (cond b (y ∷ filter p ys) (filter p ys)) x
    kept true h = contains_later y (filter p ys) x h
    kept false h = h

    by : (x ≡ y) ⊎ Contains ys x → (Contains ys x → Contains (filter p ys) x) → Contains (cond (p y) (y ∷ filter p ys) (filter p ys)) x
    by (inl same) later =
        subst (λ (b : Bool). Contains (cond b (y ∷ filter p ys) (filter p ys)) x) (sym is ∙ ap p same)
        (subst (λ (z : X). Contains (z ∷ filter p ys) x) same (contains_first x (filter p ys)))
    by (inr among) later = kept (p y) (later among)

pub contains_filtered : {X : Type 0} (p : X → Bool) (xs : List X) (x : X) → Contains (filter p xs) x → Contains xs x × (p x ≡ true)
contains_filtered p xs x at =
    (All-contains (Contains xs) (filter p xs) x (All-filter p (Contains xs) xs (All-contains_itself xs)) at, All-contains (λ y. p y ≡ true) (filter p xs) x (filter_passes p xs) at)

-- what holds of each item that is in a list, all its items have
pub all_of : {X : Type 0} (P : X → Type 0) (xs : List X) → ((x : X) → Contains xs x → P x) → All P xs
all_of P xs each = All-weaker (Contains xs) P each xs (All-contains_itself xs)

-- what all items of a joined list have, those of its parts have
pub all_first : {X : Type 0} (P : X → Type 0) (xs ys : List X) → All P (xs ++ ys) → All P xs
all_first P xs ys all k d within = subst P (get_or_append_left xs ys d k within) (all k d (omega (arith, length-append xs ys)))

pub all_second : {X : Type 0} (P : X → Type 0) (xs ys : List X) → All P (xs ++ ys) → All P ys
all_second P xs ys all k d within = subst P (get_or-append-add xs ys k d) (all (length xs + k) d (omega (arith, length-append xs ys)))

-- what holds within a part of a list, all items of the part have
module _ {X : Type 0} (P : X → Type 0) (xs : List X) where
  pub within_take : (n : ℕ) → AllWithin P xs 0 n → All P (take n xs)
  within_take n all k d lt =
      let below : k < n = omega (arith, length-take n xs) in
      subst P (sym (get_or-take n xs k d below)) (all k d (omega arith) below)

  pub within_drop : (n : ℕ) → AllWithin P xs n (length xs) → All P (drop n xs)
  within_drop n all k d lt = subst P (sym (get_or-drop n xs k d)) (all (n + k) d (omega arith) (omega (arith, length-drop n xs)))

  pub within_between : (i j : ℕ) → j ≤ length xs → AllWithin P xs i j → All P (between i j xs)
  within_between i j le all k d lt =
      let below : i + k < j = omega (arith, length-between xs i j le) in
      subst P (sym (get_or-between xs i j k d below)) (all (i + k) d (omega arith) below)
