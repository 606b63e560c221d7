-- Tests, and tests of lists.
use Rattle.std.proofs.Common.{◌≡◌, ◌⊎◌, inl, inr, ℕ, Bool, true, false, List, [], ◌∷◌, ◌++◌, map, refl, sym, ap, ◌∙◌}
use Rattle.std.specs.Prelude.{◌||◌, ◌&&◌}
use Rattle.std.specs.List.{list_any, list_all, AllByRecursion}
use Rattle.std.proofs.Math.Bool.{or-true}

-- ---- tests

pub same_tests : (a b : Bool) → (a ≡ true → b ≡ true) → (b ≡ true → a ≡ true) → a ≡ b
same_tests true true f g = refl
same_tests true false f g = let h = f refl in absurd cc
same_tests false true f g = let h = g refl in absurd cc
same_tests false false f g = refl

pub or_swap : (a b c : Bool) → (a || (b || c)) ≡ (b || (a || c))
or_swap true b c = sym (or-true b)
or_swap false b c = refl

pub or_again : (a c : Bool) → (a || (a || c)) ≡ (a || c)
or_again true c = refl
or_again false c = refl

-- ---- tests of lists

pub any_of_map : {X Y : Type 0} (p : Y → Bool) (h : X → Y) (xs : List X) → list_any p (map h xs) ≡ list_any (λ x. p (h x)) xs
any_of_map p h [] = refl
any_of_map p h (x ∷ xs) = ap (λ rest. p (h x) || rest) (any_of_map p h xs)

pub all_of_map : {X Y : Type 0} (p : Y → Bool) (h : X → Y) (xs : List X) → list_all p (map h xs) ≡ list_all (λ x. p (h x)) xs
all_of_map p h [] = refl
all_of_map p h (x ∷ xs) = ap (λ rest. p (h x) && rest) (all_of_map p h xs)

pub any_same : {X : Type 0} (p q : X → Bool) (xs : List X) → AllByRecursion (λ x. p x ≡ q x) xs → list_any p xs ≡ list_any q xs
any_same p q [] h = refl
any_same p q (x ∷ xs) h = let rest = any_same p q xs h.1 in let here = h.0 in cc

pub all_same : {X : Type 0} (p q : X → Bool) (xs : List X) → AllByRecursion (λ x. p x ≡ q x) xs → list_all p xs ≡ list_all q xs
all_same p q [] h = refl
all_same p q (x ∷ xs) h = let rest = all_same p q xs h.1 in let here = h.0 in cc

pub everywhere : {X : Type 0} (P : X → Type 0) (xs : List X) → ((x : X) → P x) → AllByRecursion P xs
everywhere P [] h = tt
everywhere P (x ∷ xs) h = (h x, everywhere P xs h)

pub found : {X : Type 0} (p : X → Bool) (xs : List X) → list_any p xs ≡ true → (x : X) × (p x ≡ true)
found p [] e = absurd cc
found {X} p (x ∷ xs) e = found_in_either (p x) refl e (found p xs)
  where
    found_in_either : (here : Bool) → p x ≡ here → (here || list_any p xs) ≡ true → (list_any p xs ≡ true → (y : X) × (p y ≡ true)) → (y : X) × (p y ≡ true)
    found_in_either true is e later = (x, is)
    found_in_either false is e later = later e

-- a number that is among these
abbrev pub IsIn : ℕ → List ℕ → Type 0
IsIn n [] = ⊥
IsIn n (m ∷ ms) = (m ≡ n) ⊎ IsIn n ms

pub in_front : (n : ℕ) (ms ns : List ℕ) → IsIn n ms → IsIn n (ms ++ ns)
in_front n [] ns h = absurd h
in_front n (m ∷ ms) ns (inl is) = inl is
in_front n (m ∷ ms) ns (inr later) = inr (in_front n ms ns later)

pub in_back : (n : ℕ) (ms ns : List ℕ) → IsIn n ns → IsIn n (ms ++ ns)
in_back n [] ns h = h
in_back n (m ∷ ms) ns h = inr (in_back n ms ns h)

pub any_in : (p : ℕ → Bool) (n : ℕ) (ms : List ℕ) → IsIn n ms → p n ≡ true → list_any p ms ≡ true
any_in p n [] h e = absurd h
any_in p n (m ∷ ms) (inl is) e = ap (λ k. p k || list_any p ms) is ∙ ap (λ t. t || list_any p ms) e
any_in p n (m ∷ ms) (inr later) e = ap (λ rest. p m || rest) (any_in p n ms later e) ∙ or-true (p m)
