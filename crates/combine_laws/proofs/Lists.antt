-- Facts of each element of a list, by recursion on it; tests of lists and bags; numbered lists.
use Rattle.std.proofs.Common.{◌≡◌, ℕ, zero, suc, ◌+◌, ◌<◌, ◌≤◌, nat_lt, Bool, true, false, cond, ◌||◌, List, [], ◌∷◌, ◌++◌, drop, length, map, Some, refl, sym, ap, ap₂, ◌∙◌, zero-add, arith}
use Rattle.std.specs.Prelude.{slice_get}
use Rattle.std.specs.List.{AllByRecursion, count_by, enumerate_from, filter, flat_map, list_all, list_any, sum_by}
use Rattle.std.proofs.lemmas.Bool.{and_from, and_parts, both_ways, false_from_ne_true}
use Rattle.std.proofs.lemmas.List.{nil_from_length}
use Rattle.std.proofs.lemmas.List.Sums.{sum_by-cons}
use Rattle.std.proofs.lemmas.Map.Keys.{any_passes_from_place}
use Rattle.beam_values.specs.Bags.{IsSameBag}
use Rattle.combine_lift.proofs.Folding.{some_of_two}

-- ---- of each element

module _ {X : Type 0} (P : X → Type 0) where
  pub each_append : (xs ys : List X) → AllByRecursion P xs → AllByRecursion P ys → AllByRecursion P (xs ++ ys)
  each_append [] ys first second = second
  each_append (x ∷ xs) ys first second = (first.0, each_append xs ys first.1 second)

  pub each_first : (xs ys : List X) → AllByRecursion P (xs ++ ys) → AllByRecursion P xs
  each_first [] ys all = tt
  each_first (x ∷ xs) ys all = (all.0, each_first xs ys all.1)

  pub each_flat_map : {Y : Type 0} (Q : Y → Type 0) (f : Y → List X) → ((y : Y) → Q y → AllByRecursion P (f y)) → (ys : List Y) → AllByRecursion Q ys → AllByRecursion P (flat_map f ys)
  each_flat_map Q f gives [] all = tt
  each_flat_map Q f gives (y ∷ ys) all = each_append (f y) (flat_map f ys) (gives y all.0) (each_flat_map Q f gives ys all.1)

  pub each_of_all : {Y : Type 0} (f : Y → List X) → ((y : Y) → AllByRecursion P (f y)) → (ys : List Y) → AllByRecursion P (flat_map f ys)
  each_of_all f gives [] = tt
  each_of_all f gives (y ∷ ys) = each_append (f y) (flat_map f ys) (gives y) (each_of_all f gives ys)

  pub each_map : {Y : Type 0} (f : Y → X) → ((y : Y) → P (f y)) → (ys : List Y) → AllByRecursion P (map f ys)
  each_map f gives [] = tt
  each_map f gives (y ∷ ys) = (gives y, each_map f gives ys)

  pub each_mapped : {Y : Type 0} (f : Y → X) (ys : List Y) → AllByRecursion (λ y. P (f y)) ys → AllByRecursion P (map f ys)
  each_mapped f [] all = tt
  each_mapped f (y ∷ ys) all = (all.0, each_mapped f ys all.1)

  pub each_unmapped : {Y : Type 0} (f : Y → X) (ys : List Y) → AllByRecursion P (map f ys) → AllByRecursion (λ y. P (f y)) ys
  each_unmapped f [] all = tt
  each_unmapped f (y ∷ ys) all = (all.0, each_unmapped f ys all.1)

  pub each_drop : (n : ℕ) (xs : List X) → AllByRecursion P xs → AllByRecursion P (drop n xs)
  each_drop zero xs all = all
  each_drop (suc n) [] all = tt
  each_drop (suc n) (x ∷ xs) all = each_drop n xs all.1

  pub each_filter : (p : X → Bool) (xs : List X) → AllByRecursion P xs → AllByRecursion P (filter p xs)
  each_filter p [] all = tt
  each_filter p (x ∷ xs) all = by (p x) (each_filter p xs all.1)
    where
      by : (b : Bool) → AllByRecursion P (filter p xs) → AllByRecursion P (cond b (x ∷ filter p xs) (filter p xs))
      by true later = (all.0, later)
      by false later = later

  pub each_weaker : (Q : X → Type 0) → ((x : X) → P x → Q x) → (xs : List X) → AllByRecursion P xs → AllByRecursion Q xs
  each_weaker Q weaker [] all = tt
  each_weaker Q weaker (x ∷ xs) all = (weaker x all.0, each_weaker Q weaker xs all.1)

  pub each_there : (xs : List X) → ((k : ℕ) (x : X) → slice_get xs k ≡ Some x → P x) → AllByRecursion P xs
  each_there [] at = tt
  each_there (x ∷ xs) at = (at 0 x refl, each_there xs (λ k y here. at (suc k) y here))

-- ---- tests

pub passes_at : {X : Type 0} (p : X → Bool) (xs : List X) → list_any p xs ≡ false → (k : ℕ) (x : X) → slice_get xs k ≡ Some x → p x ≡ false
passes_at p xs none k x here = false_from_ne_true (p x) (λ passes. both_ways (list_any p xs) none (any_passes_from_place p xs k x here passes))

pub one_counted : {X : Type 0} (p : X → Bool) (xs : List X) (k : ℕ) (x : X) → slice_get xs k ≡ Some x → p x ≡ true → 1 ≤ count_by p xs
one_counted p [] k x here passes = absurd cc
one_counted p (y ∷ xs) zero x here passes =
    let same : y ≡ x = cc in
    let one : cond {A = ℕ} (p y) 1 0 ≡ 1 = ap (λ z. cond {A = ℕ} (p z) 1 0) same ∙ ap (λ b. cond {A = ℕ} b 1 0) passes in
    omega (arith, sum_by-cons (λ z. cond {A = ℕ} (p z) 1 0) y xs)
one_counted p (y ∷ xs) (suc k) x here passes = omega (arith, sum_by-cons (λ z. cond {A = ℕ} (p z) 1 0) y xs, one_counted p xs k x here passes)

pub two_counted : {X : Type 0} (p : X → Bool) (xs : List X) (j k : ℕ) (x y : X) → j < k → slice_get xs j ≡ Some x → slice_get xs k ≡ Some y → p x ≡ true → p y ≡ true → 2 ≤ count_by p xs
two_counted p [] j k x y before here there first second = absurd cc
two_counted p (z ∷ xs) j zero x y before here there first second = absurd (omega arith)
two_counted p (z ∷ xs) zero (suc k) x y before here there first second =
    let same : z ≡ x = cc in
    let one : cond {A = ℕ} (p z) 1 0 ≡ 1 = ap (λ u. cond {A = ℕ} (p u) 1 0) same ∙ ap (λ b. cond {A = ℕ} b 1 0) first in
    omega (arith, sum_by-cons (λ u. cond {A = ℕ} (p u) 1 0) z xs, one_counted p xs k y there second)
two_counted p (z ∷ xs) (suc j) (suc k) x y before here there first second =
    omega (arith, sum_by-cons (λ u. cond {A = ℕ} (p u) 1 0) z xs, two_counted p xs j k x y (omega arith) here there first second)

pub any_by_count : {X : Type 0} (p : X → Bool) (xs : List X) → list_any p xs ≡ nat_lt 0 (count_by p xs)
any_by_count p [] = refl
any_by_count p (x ∷ xs) =
    ap₂ (λ a b. a || b) (once (p x)) (any_by_count p xs)
    ∙ sym (some_of_two (cond {A = ℕ} (p x) 1 0) (count_by p xs))
    ∙ ap (nat_lt 0) (sym (sum_by-cons (λ y. cond {A = ℕ} (p y) 1 0) x xs))
  where
    once : (b : Bool) → b ≡ nat_lt 0 (cond {A = ℕ} b 1 0)
    once true = refl
    once false = refl

-- ---- in any order

pub any_in_any_order : {X : Type 0} (p : X → Bool) (xs ys : List X) → IsSameBag xs ys → list_any p xs ≡ list_any p ys
any_in_any_order p xs ys same = any_by_count p xs ∙ ap (nat_lt 0) (same.weighs (λ x. cond {A = ℕ} (p x) 1 0)) ∙ sym (any_by_count p ys)

none_fails : {X : Type 0} (p : X → Bool) (xs : List X) → AllByRecursion (λ x. p x ≡ true) xs → sum_by (λ x. cond {A = ℕ} (p x) 0 1) xs ≡ 0
none_fails p [] all = refl
none_fails p (x ∷ xs) all =
    sum_by-cons (λ y. cond {A = ℕ} (p y) 0 1) x xs ∙ ap₂ (λ a b. a + b) (ap (λ b. cond {A = ℕ} b 0 1) all.0) (none_fails p xs all.1)

all_pass : {X : Type 0} (p : X → Bool) (xs : List X) → sum_by (λ x. cond {A = ℕ} (p x) 0 1) xs ≡ 0 → AllByRecursion (λ x. p x ≡ true) xs
all_pass p [] none = tt
all_pass p (x ∷ xs) none = by (p x) refl (sym (sum_by-cons (λ y. cond {A = ℕ} (p y) 0 1) x xs) ∙ none) (all_pass p xs)
  where
    by : (b : Bool) → p x ≡ b → cond {A = ℕ} b 0 1 + sum_by (λ y. cond {A = ℕ} (p y) 0 1) xs ≡ 0 → (sum_by (λ y. cond {A = ℕ} (p y) 0 1) xs ≡ 0 → AllByRecursion (λ y. p y ≡ true) xs)
        → AllByRecursion (λ y. p y ≡ true) (x ∷ xs)
    by true is rest later = (is, later (sym (zero-add _) ∙ rest))
    by false is rest later = absurd (omega arith)

pub pass_in_any_order : {X : Type 0} (p : X → Bool) (xs ys : List X) → IsSameBag xs ys → AllByRecursion (λ x. p x ≡ true) xs → AllByRecursion (λ x. p x ≡ true) ys
pass_in_any_order p xs ys same all = all_pass p ys (sym (same.weighs (λ x. cond {A = ℕ} (p x) 0 1)) ∙ none_fails p xs all)

pub each_from_all : {X : Type 0} (p : X → Bool) (xs : List X) → list_all p xs ≡ true → AllByRecursion (λ x. p x ≡ true) xs
each_from_all p [] all = tt
each_from_all p (x ∷ xs) all = let parts = and_parts (p x) (list_all p xs) all in (parts.0, each_from_all p xs parts.1)

pub all_from_each : {X : Type 0} (p : X → Bool) (xs : List X) → AllByRecursion (λ x. p x ≡ true) xs → list_all p xs ≡ true
all_from_each p [] all = refl
all_from_each p (x ∷ xs) all = and_from (p x) (list_all p xs) all.0 (all_from_each p xs all.1)

pub all_in_any_order : {X : Type 0} (p : X → Bool) (xs ys : List X) → IsSameBag xs ys → list_all p xs ≡ true → list_all p ys ≡ true
all_in_any_order p xs ys same all = all_from_each p ys (pass_in_any_order p xs ys same (each_from_all p xs all))

ones : {X : Type 0} (xs : List X) → sum_by (λ x. 1) xs ≡ length xs
ones [] = refl
ones (x ∷ xs) = omega (arith, sum_by-cons (λ y. 1) x xs, ones xs)

pub length_in_any_order : {X : Type 0} (xs ys : List X) → IsSameBag xs ys → length xs ≡ length ys
length_in_any_order xs ys same = sym (ones xs) ∙ same.weighs (λ x. 1) ∙ ones ys

pub none_in_any_order : {X : Type 0} (xs ys : List X) → IsSameBag xs ys → ys ≡ [] → xs ≡ []
none_in_any_order xs ys same none = nil_from_length xs (length_in_any_order xs ys same ∙ ap length none)

-- ---- filters

pub filter-map : {X Y : Type 0} (p : Y → Bool) (f : X → Y) (xs : List X) → filter p (map f xs) ≡ map f (filter (λ x. p (f x)) xs)
filter-map p f [] = refl
filter-map p f (x ∷ xs) = by (p (f x)) (filter-map p f xs)
  where
    by : (b : Bool) → filter p (map f xs) ≡ map f (filter (λ y. p (f y)) xs)
        → cond b (f x ∷ filter p (map f xs)) (filter p (map f xs)) ≡ map f (cond b (x ∷ filter (λ y. p (f y)) xs) (filter (λ y. p (f y)) xs))
    by true same = ap (λ l. f x ∷ l) same
    by false same = same

pub filter_passing : {X : Type 0} (p : X → Bool) (xs : List X) → AllByRecursion (λ x. p x ≡ true) xs → filter p xs ≡ xs
filter_passing p [] all = refl
filter_passing p (x ∷ xs) all = ap (λ b. cond b (x ∷ filter p xs) (filter p xs)) all.0 ∙ ap (λ l. x ∷ l) (filter_passing p xs all.1)

pub filter_failing : {X : Type 0} (p : X → Bool) (xs : List X) → AllByRecursion (λ x. p x ≡ false) xs → filter p xs ≡ []
filter_failing p [] all = refl
filter_failing p (x ∷ xs) all = ap (λ b. cond b (x ∷ filter p xs) (filter p xs)) all.0 ∙ filter_failing p xs all.1

-- what a wider test kept already is kept again
pub filter_twice : {X : Type 0} (p q : X → Bool) → ((x : X) → p x ≡ true → q x ≡ true) → (xs : List X) → filter p (filter q xs) ≡ filter p xs
filter_twice p q wider [] = refl
filter_twice p q wider (x ∷ xs) = by (p x) (q x) refl (wider x) (filter_twice p q wider xs)
  where
    by : (a b : Bool) → p x ≡ a → (a ≡ true → b ≡ true) → filter p (filter q xs) ≡ filter p xs
        → filter p (cond b (x ∷ filter q xs) (filter q xs)) ≡ cond a (x ∷ filter p xs) (filter p xs)
    by true true is h same = ap (λ (c : Bool). cond c (x ∷ filter p (filter q xs)) (filter p (filter q xs))) is ∙ ap (λ (l : List _). x ∷ l) same
    by true false is h same = absurd (no (h refl))
      where
        no : false ≡ true → ⊥
        no f = absurd (cc)
    by false true is h same = ap (λ (c : Bool). cond c (x ∷ filter p (filter q xs)) (filter p (filter q xs))) is ∙ same
    by false false is h same = same

pub count-map : {X Y : Type 0} (p : Y → Bool) (f : X → Y) (xs : List X) → count_by p (map f xs) ≡ count_by (λ x. p (f x)) xs
count-map p f [] = refl
count-map p f (x ∷ xs) =
    sum_by-cons (λ y. cond {A = ℕ} (p y) 1 0) (f x) (map f xs) ∙ ap (λ n. cond {A = ℕ} (p (f x)) 1 0 + n) (count-map p f xs)
    ∙ sym (sum_by-cons (λ y. cond {A = ℕ} (p (f y)) 1 0) x xs)

pub map-map : {X Y Z : Type 0} (g : Y → Z) (f : X → Y) (xs : List X) → map g (map f xs) ≡ map (λ x. g (f x)) xs
map-map g f [] = refl
map-map g f (x ∷ xs) = ap (λ l. g (f x) ∷ l) (map-map g f xs)

-- ---- numbered lists

pub numbered_at : {X : Type 0} (next : ℕ) (xs : List X) (k : ℕ) (x : X) → slice_get xs k ≡ Some x → slice_get (enumerate_from next xs) k ≡ Some (next + k, x)
numbered_at next [] k x here = absurd cc
numbered_at next (y ∷ xs) zero x here =
    let same : y ≡ x = cc in
    let place : next ≡ next + 0 = omega arith in
    ap₂ (λ n z. Some (n, z)) place same
numbered_at next (y ∷ xs) (suc k) x here =
    let place : (next + 1) + k ≡ next + suc k = omega arith in
    numbered_at (next + 1) xs k x here ∙ ap (λ n. Some (n, x)) place
