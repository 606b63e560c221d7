-- A loop that writes each item where it lies.
use Rattle.std.proofs.Common.{◌≡◌, ℕ, ◌+◌, ◌<◌, ◌≤◌, List, [], ◌∷◌, ◌++◌, map, take, drop, length, get_or, sym, ap, ◌∙◌, arith, append_assoc, append-nil}
use Rattle.std.specs.Prelude.{slice_set}
use Rattle.std.proofs.lemmas.List.{take_more, drop_more, take_all, drop_all, map-append, set_at, length-map, length-take, length-drop, length-append, get_or_at}

-- those before a place are written, and the others aren't yet
abbrev pub written : {X : Type 0} → (X → X) → List X → ℕ → List X
written f xs i = map f (take i xs) ++ drop i xs

pub written_length : {X : Type 0} (f : X → X) (xs items : List X) (i : ℕ) → i ≤ length items → items ≡ written f xs i → length items ≡ length xs
written_length f xs items i within is =
    omega (arith, ap length is, length-append (map f (take i xs)) (drop i xs), length-map (take i xs) f, length-take i xs, length-drop i xs)

pub still_within : {X : Type 0} (f : X → X) (xs items : List X) (i : ℕ) → i < length xs → items ≡ written f xs i → i < length items
still_within f xs items i within is =
    omega (arith, ap length is, length-append (map f (take i xs)) (drop i xs), length-map (take i xs) f, length-take i xs, length-drop i xs)

pub written_item : {X : Type 0} (f : X → X) (xs items : List X) (i : ℕ) (x : X) → i < length items → items ≡ written f xs i → x ≡ get_or items i x → x ≡ get_or xs i x
written_item f xs items i x within is at =
    let sizes : length items ≡ length xs = written_length f xs items i (omega arith) is in
    let inside : i < length xs = omega arith in
    let front : length (map f (take i xs)) ≡ i = omega (arith, length-map (take i xs) f, length-take i xs) in
    at ∙ ap (λ l. get_or l i x) (is ∙ ap (λ l. map f (take i xs) ++ l) (drop_more xs i x inside)) ∙ get_or_at (map f (take i xs)) (get_or xs i x) (drop (i + 1) xs) x i front

pub written_more : {X : Type 0} (f : X → X) (xs items : List X) (i : ℕ) (x y : X) → i < length items → items ≡ written f xs i → x ≡ get_or items i x → y ≡ f x
    → slice_set items i y ≡ written f xs (i + 1)
written_more f xs items i x y within is at made =
    let sizes : length items ≡ length xs = written_length f xs items i (omega arith) is in
    let inside : i < length xs = omega arith in
    let front : length (map f (take i xs)) ≡ i = omega (arith, length-map (take i xs) f, length-take i xs) in
    let whole : items ≡ map f (take i xs) ++ get_or xs i x ∷ drop (i + 1) xs = is ∙ ap (λ l. map f (take i xs) ++ l) (drop_more xs i x inside) in
    let same : x ≡ get_or xs i x = written_item f xs items i x within is at in
    ap (λ l. slice_set l i y) whole ∙ set_at (map f (take i xs)) (get_or xs i x) (drop (i + 1) xs) y i front
    ∙ ap (λ z. map f (take i xs) ++ z ∷ drop (i + 1) xs) (made ∙ ap f same)
    ∙ sym (append_assoc (map f (take i xs)) (f (get_or xs i x) ∷ []) (drop (i + 1) xs))
    ∙ ap (λ l. l ++ drop (i + 1) xs) (sym (ap (map f) (take_more xs i x inside) ∙ map-append f (take i xs) (get_or xs i x ∷ [])))

pub written_all : {X : Type 0} (f : X → X) (xs items : List X) (i : ℕ) → length items ≤ i → i ≤ length items → items ≡ written f xs i → items ≡ map f xs
written_all f xs items i above within is =
    let sizes : length items ≡ length xs = written_length f xs items i within is in
    is ∙ (λ j. map f (take_all i xs (omega arith) j) ++ drop_all i xs (omega arith) j) ∙ append-nil (map f xs)
