-- Counts and filters where all elements pass or none do, and parts of sorted lists.
use Rattle.std.proofs.Common.{◌≡◌, ℕ, ◌+◌, ◌<◌, ◌≤◌, Bool, true, false, cond, List, [], ◌∷◌, length, get_or, take, drop, refl, sym, ap, ◌∙◌, arith}
use Rattle.std.specs.List.{All, count_by, filter, prefix_len}
use Rattle.std.specs.List.Sorted.{IsSortedBy}
use Rattle.std.proofs.lemmas.List.{get_or-take, get_or-drop, length-take, length-drop, nil_from_length}
use Rattle.std.proofs.lemmas.List.Elements.{All-nil, All-cons, All-head, All-tail}
use Rattle.std.proofs.lemmas.List.Sums.{length-filter, get_or-le-sum_by, prefix_len_passes}

pub filter_all : {X : Type 0} (p : X → Bool) (xs : List X) → All (λ x. p x ≡ true) xs → filter p xs ≡ xs
filter_all p [] h = refl
filter_all p (x ∷ xs) h =
    ap (λ b. cond b (x ∷ filter p xs) (filter p xs)) (All-head (λ y. p y ≡ true) x xs h)
    ∙ ap (λ l. x ∷ l) (filter_all p xs (All-tail (λ y. p y ≡ true) x xs h))

pub filter_none : {X : Type 0} (p : X → Bool) (xs : List X) → All (λ x. p x ≡ false) xs → filter p xs ≡ []
filter_none p [] h = refl
filter_none p (x ∷ xs) h =
    ap (λ b. cond b (x ∷ filter p xs) (filter p xs)) (All-head (λ y. p y ≡ false) x xs h)
    ∙ filter_none p xs (All-tail (λ y. p y ≡ false) x xs h)

pub count_all : {X : Type 0} (p : X → Bool) (xs : List X) → All (λ x. p x ≡ true) xs → count_by p xs ≡ length xs
count_all p xs h = sym (length-filter p xs) ∙ ap length (filter_all p xs h)

pub count_none : {X : Type 0} (p : X → Bool) (xs : List X) → All (λ x. p x ≡ false) xs → count_by p xs ≡ 0
count_none p xs h = sym (length-filter p xs) ∙ ap length (filter_none p xs h)

pub filter_where_none : {X : Type 0} (p : X → Bool) (xs : List X) → count_by p xs ≡ 0 → filter p xs ≡ []
filter_where_none p xs h = nil_from_length (filter p xs) (length-filter p xs ∙ h)

pub count_member : {X : Type 0} (p : X → Bool) (xs : List X) (k : ℕ) (d : X) → k < length xs → p (get_or xs k d) ≡ true → 1 ≤ count_by p xs
count_member p xs k d l h =
    let one : cond {A = ℕ} (p (get_or xs k d)) 1 0 ≡ 1 = ap (λ (b : Bool). cond {A = ℕ} b 1 0) h in
    omega (arith, get_or-le-sum_by (λ (x : _). cond {A = ℕ} (p x) 1 0) xs k d l)

pub count_yes : {X : Type 0} (p : X → Bool) (x : X) → p x ≡ true → count_by p (x ∷ []) ≡ 1
count_yes p x h = count_all p (x ∷ []) (All-cons (λ y. p y ≡ true) x [] h (All-nil (λ y. p y ≡ true)))

pub count_no : {X : Type 0} (p : X → Bool) (x : X) → p x ≡ false → count_by p (x ∷ []) ≡ 0
count_no p x h = count_none p (x ∷ []) (All-cons (λ y. p y ≡ false) x [] h (All-nil (λ y. p y ≡ false)))

pub run_passes : {X : Type 0} (p : X → Bool) (xs : List X) → All (λ x. p x ≡ true) (take (prefix_len p xs) xs)
run_passes p xs k d l =
    let within : k < prefix_len p xs = omega (arith, length-take (prefix_len p xs) xs) in
    ap p (get_or-take (prefix_len p xs) xs k d within) ∙ prefix_len_passes p xs k d within

pub sorted_take : {X : Type 0} (lt : X → X → Bool) (n : ℕ) (xs : List X) → IsSortedBy lt xs → IsSortedBy lt (take n xs)
sorted_take lt n xs h k d z l =
    let below : k + 1 < n = omega (arith, length-take n xs) in
    let within : k + 1 < length xs = omega (arith, length-take n xs) in
    ap (λ x. lt x (get_or (take n xs) k d)) (get_or-take n xs (k + 1) d below)
    ∙ ap (λ x. lt (get_or xs (k + 1) d) x) (get_or-take n xs k d (omega arith))
    ∙ h k d z within

pub sorted_drop : {X : Type 0} (lt : X → X → Bool) (n : ℕ) (xs : List X) → IsSortedBy lt xs → IsSortedBy lt (drop n xs)
sorted_drop lt n xs h k d z l =
    let within : (n + k) + 1 < length xs = omega (arith, length-drop n xs) in
    let next : n + (k + 1) ≡ (n + k) + 1 = omega arith in
    ap (λ x. lt x (get_or (drop n xs) k d)) (get_or-drop n xs (k + 1) d ∙ ap (λ i. get_or xs i d) next)
    ∙ ap (λ x. lt (get_or xs ((n + k) + 1) d) x) (get_or-drop n xs k d)
    ∙ h (n + k) d (omega arith) within
