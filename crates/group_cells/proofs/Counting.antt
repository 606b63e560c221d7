-- What tests of the items of a list count and keep.
use Rattle.std.proofs.Common.{◌≡◌, ℕ, ◌+◌, ◌≤◌, ◌<◌, Bool, true, false, cond, List, [], ◌∷◌, ◌++◌, map, length, get_or, refl, ap, ◌∙◌, arith, append-nil}
use Rattle.std.specs.Prelude.{◌||◌}
use Rattle.std.specs.List.{All, count_by, sum_by, filter, list_any, flat_map}
use Rattle.std.proofs.lemmas.List.Elements.{All-nil, All-cons, All-head, All-tail, All-append, filter-append}
use Rattle.std.proofs.lemmas.List.Sums.{sum_by-cons, sum_by-append, get_or-le-sum_by}
use Rattle.beam_values.proofs.Bags.{sum_by-map}

module _ {X : Type 0} (p : X → Bool) where
  pub filter_all : (xs : List X) → All (λ x. p x ≡ true) xs → filter p xs ≡ xs
  filter_all [] h = refl
  filter_all (x ∷ xs) h =
      ap (λ b. cond b (x ∷ filter p xs) (filter p xs)) (All-head (λ y. p y ≡ true) x xs h)
      ∙ ap (λ l. x ∷ l) (filter_all xs (All-tail (λ y. p y ≡ true) x xs h))

  pub filter_none : (xs : List X) → All (λ x. p x ≡ false) xs → filter p xs ≡ []
  filter_none [] h = refl
  filter_none (x ∷ xs) h =
      ap (λ b. cond b (x ∷ filter p xs) (filter p xs)) (All-head (λ y. p y ≡ false) x xs h) ∙ filter_none xs (All-tail (λ y. p y ≡ false) x xs h)

  pub count_none : (xs : List X) → All (λ x. p x ≡ false) xs → count_by p xs ≡ 0
  count_none [] h = refl
  count_none (x ∷ xs) h =
      let here : cond {A = ℕ} (p x) 1 0 ≡ 0 = ap (λ (b : Bool). cond {A = ℕ} b 1 0) (All-head (λ y. p y ≡ false) x xs h) in
      omega (arith, sum_by-cons (λ (y : X). cond {A = ℕ} (p y) 1 0) x xs, count_none xs (All-tail (λ y. p y ≡ false) x xs h))

  pub none_counted : (xs : List X) → count_by p xs ≡ 0 → All (λ x. p x ≡ false) xs
  none_counted [] h = All-nil (λ x. p x ≡ false)
  none_counted (x ∷ xs) h =
      let parts = sum_by-cons (λ (y : X). cond {A = ℕ} (p y) 1 0) x xs in
      All-cons (λ y. p y ≡ false) x xs (by (p x) (omega arith)) (none_counted xs (omega arith))
    where
      by : (b : Bool) → cond {A = ℕ} b 1 0 ≡ 0 → b ≡ false
      by true e = absurd (omega arith)
      by false e = refl

  pub count-append : (xs ys : List X) → count_by p (xs ++ ys) ≡ count_by p xs + count_by p ys
  count-append xs ys = sum_by-append (λ (y : X). cond {A = ℕ} (p y) 1 0) xs ys

  pub filter_front : (xs ys : List X) → All (λ x. p x ≡ true) xs → All (λ x. p x ≡ false) ys → filter p (xs ++ ys) ≡ xs
  filter_front xs ys h k = filter-append p xs ys ∙ ap (λ l. l ++ filter p ys) (filter_all xs h) ∙ ap (λ l. xs ++ l) (filter_none ys k) ∙ append-nil xs

  pub filter_left : (xs ys : List X) → All (λ x. p x ≡ false) ys → filter p (xs ++ ys) ≡ filter p xs
  filter_left xs ys k = filter-append p xs ys ∙ ap (λ l. filter p xs ++ l) (filter_none ys k) ∙ append-nil (filter p xs)

  pub filter_right : (xs ys : List X) → All (λ x. p x ≡ false) xs → filter p (xs ++ ys) ≡ filter p ys
  filter_right xs ys h = filter-append p xs ys ∙ ap (λ l. l ++ filter p ys) (filter_none xs h)

  pub count_member : (xs : List X) (k : ℕ) (d : X) → k < length xs → p (get_or xs k d) ≡ true → 1 ≤ count_by p xs
  count_member xs k d within passes =
      let here : cond {A = ℕ} (p (get_or xs k d)) 1 0 ≡ 1 = ap (λ (b : Bool). cond {A = ℕ} b 1 0) passes in
      omega (arith, get_or-le-sum_by (λ (x : X). cond {A = ℕ} (p x) 1 0) xs k d within)

pub filter_where : {X : Type 0} (p q : X → Bool) (xs : List X) → All (λ x. p x ≡ q x) xs → filter p xs ≡ filter q xs
filter_where p q [] h = refl
filter_where p q (x ∷ xs) h =
    ap (λ b. cond b (x ∷ filter p xs) (filter p xs)) (All-head (λ y. p y ≡ q y) x xs h)
    ∙ ap (λ l. cond (q x) (x ∷ l) l) (filter_where p q xs (All-tail (λ y. p y ≡ q y) x xs h))

pub counted_more : {X : Type 0} (p q : X → Bool) (P : X → Type 0) → ((x : X) → P x → p x ≡ true → q x ≡ true) → (xs : List X) → All P xs → 1 ≤ count_by p xs → 1 ≤ count_by q xs
counted_more p q P more [] all some = some
counted_more p q P more (x ∷ xs) all some = by (p x) refl (counted_more p q P more xs (All-tail P x xs all))
  where
    by : (b : Bool) → p x ≡ b → (1 ≤ count_by p xs → 1 ≤ count_by q xs) → 1 ≤ count_by q (x ∷ xs)
    by true e onward =
        let here : cond {A = ℕ} (q x) 1 0 ≡ 1 = ap (λ (b : Bool). cond {A = ℕ} b 1 0) (more x (All-head P x xs all) e) in
        omega (arith, sum_by-cons (λ (y : _). cond {A = ℕ} (q y) 1 0) x xs)
    by false e onward =
        let here : cond {A = ℕ} (p x) 1 0 ≡ 0 = ap (λ (b : Bool). cond {A = ℕ} b 1 0) e in
        let rest = onward (omega (arith, some, sum_by-cons (λ (y : _). cond {A = ℕ} (p y) 1 0) x xs)) in
        omega (arith, sum_by-cons (λ (y : _). cond {A = ℕ} (q y) 1 0) x xs)

pub All-flat_map : {X Y : Type 0} (P : Y → Type 0) (f : X → List Y) (xs : List X) → All (λ x. All P (f x)) xs → All P (flat_map f xs)
All-flat_map P f [] h = All-nil P
All-flat_map P f (x ∷ xs) h =
    All-append P (f x) (flat_map f xs) (All-head (λ y. All P (f y)) x xs h) (All-flat_map P f xs (All-tail (λ y. All P (f y)) x xs h))

pub any_counted : {X : Type 0} (p : X → Bool) (xs : List X) → list_any p xs ≡ true → 1 ≤ count_by p xs
any_counted p [] h = absurd (cc)
any_counted p (x ∷ xs) h = by (p x) refl h (any_counted p xs)
  where
    by : (b : Bool) → p x ≡ b → (b || list_any p xs) ≡ true → (list_any p xs ≡ true → 1 ≤ count_by p xs) → 1 ≤ count_by p (x ∷ xs)
    by true e h onward =
        let here : cond {A = ℕ} (p x) 1 0 ≡ 1 = ap (λ (b : Bool). cond {A = ℕ} b 1 0) e in
        omega (arith, sum_by-cons (λ (y : _). cond {A = ℕ} (p y) 1 0) x xs)
    by false e h onward =
        let here = onward h in
        omega (arith, sum_by-cons (λ (y : _). cond {A = ℕ} (p y) 1 0) x xs)

pub none_any : {X : Type 0} (p : X → Bool) (xs : List X) → list_any p xs ≡ false → All (λ x. p x ≡ false) xs
none_any p [] h = All-nil (λ x. p x ≡ false)
none_any p (x ∷ xs) h = by (p x) refl h (none_any p xs)
  where
    by : (b : Bool) → p x ≡ b → (b || list_any p xs) ≡ false → (list_any p xs ≡ false → All (λ y. p y ≡ false) xs) → All (λ y. p y ≡ false) (x ∷ xs)
    by true e h onward = absurd (cc)
    by false e h onward = All-cons (λ y. p y ≡ false) x xs e (onward h)

pub counted_has : {X : Type 0} (p : X → Bool) (P : X → Type 0) (Q : Type 0) (xs : List X) → 1 ≤ count_by p xs → All P xs → ((x : X) → p x ≡ true → P x → Q) → Q
counted_has p P Q [] some all found = absurd (omega arith)
counted_has p P Q (x ∷ xs) some all found = by (p x) refl (counted_has p P Q xs)
  where
    by : (b : Bool) → p x ≡ b → (1 ≤ count_by p xs → All P xs → ((y : _) → p y ≡ true → P y → Q) → Q) → Q
    by true e onward = found x e (All-head P x xs all)
    by false e onward =
        let here : cond {A = ℕ} (p x) 1 0 ≡ 0 = ap (λ (b : Bool). cond {A = ℕ} b 1 0) e in
        onward (omega (arith, sum_by-cons (λ (y : _). cond {A = ℕ} (p y) 1 0) x xs)) (All-tail P x xs all) found

pub count_one : {X : Type 0} (p : X → Bool) (x : X) → (p x ≡ true → count_by p (x ∷ []) ≡ 1) × (p x ≡ false → count_by p (x ∷ []) ≡ 0)
count_one p x = (
  (λ e. let here : cond {A = ℕ} (p x) 1 0 ≡ 1 = ap (λ (b : Bool). cond {A = ℕ} b 1 0) e in omega (arith, sum_by-cons (λ (y : _). cond {A = ℕ} (p y) 1 0) x [])),
  (λ e. let here : cond {A = ℕ} (p x) 1 0 ≡ 0 = ap (λ (b : Bool). cond {A = ℕ} b 1 0) e in omega (arith, sum_by-cons (λ (y : _). cond {A = ℕ} (p y) 1 0) x [])),
)

pub count_same : {X Y : Type 0} (f : X → Y) (p : Y → Bool) (q : X → Bool) → ((x : X) → p (f x) ≡ q x) → (xs : List X) → count_by p (map f xs) ≡ count_by q xs
count_same f p q same xs = sum_by-map (λ y. cond {A = ℕ} (p y) 1 0) f xs ∙ (λ i. sum_by (λ x. cond {A = ℕ} (same x i) 1 0) xs)

pub All-flat_map_each : {X Y : Type 0} (P : Y → Type 0) (f : X → List Y) (xs : List X) → All P (flat_map f xs) → All (λ x. All P (f x)) xs
All-flat_map_each P f [] h = All-nil (λ x. All P (f x))
All-flat_map_each P f (x ∷ xs) h =
    All-cons (λ y. All P (f y)) x xs (front (f x) (flat_map f xs) h) (All-flat_map_each P f xs (back (f x) (flat_map f xs) h))
  where
    front : (us vs : List _) → All P (us ++ vs) → All P us
    front [] vs k = All-nil P
    front (u ∷ us) vs k = All-cons P u us (All-head P u (us ++ vs) k) (front us vs (All-tail P u (us ++ vs) k))

    back : (us vs : List _) → All P (us ++ vs) → All P vs
    back [] vs k = k
    back (u ∷ us) vs k = back us vs (All-tail P u (us ++ vs) k)

pub All-unmap : {X Y : Type 0} (P : Y → Type 0) (f : X → Y) (xs : List X) → All P (map f xs) → All (λ x. P (f x)) xs
All-unmap P f [] h = All-nil (λ x. P (f x))
All-unmap P f (x ∷ xs) h = All-cons (λ y. P (f y)) x xs (All-head P (f x) (map f xs) h) (All-unmap P f xs (All-tail P (f x) (map f xs) h))
