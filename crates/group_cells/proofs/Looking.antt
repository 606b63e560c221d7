-- Places, cell by cell.
use Rattle.std.proofs.Common.{◌≡◌, ℕ, suc, ◌+◌, ◌<◌, Bool, true, false, cond, List, [], ◌∷◌, ◌++◌, length, get_or, take, drop, Option, Some, None, refl, sym, ap, ◌∙◌, arith}
use Rattle.std.specs.List.{Any, position}
use Rattle.std.specs.Option.{option_map, option_or}
use Rattle.std.proofs.lemmas.List.{get_or_append_left, length-append, take_more, take-append-drop, length-take}
use Rattle.cell_index.proofs.Indexing.{place_pushed, position_yes, position_no}

found_first : {X : Type 0} (p : X → Bool) (xs ys : List X) (i : ℕ) → position p xs ≡ Some i → position p (xs ++ ys) ≡ Some i
found_first p [] ys i e = absurd cc
found_first p (x ∷ xs) ys i e = by (p x) refl (position p xs) refl (found_first p xs ys)
  where
    by : (t : Bool) → p x ≡ t → (o : Option ℕ) → position p xs ≡ o → ((j : ℕ) → position p xs ≡ Some j → position p (xs ++ ys) ≡ Some j) → position p (x ∷ (xs ++ ys)) ≡ Some i
    by true f o g ih = position_yes p x (xs ++ ys) f ∙ sym (position_yes p x xs f) ∙ e
    by false f None g ih = let h : Some i ≡ None = sym e ∙ position_no p x xs f ∙ ap (option_map suc) g in absurd cc
    by false f (Some j) g ih = position_no p x (xs ++ ys) f ∙ ap (option_map suc) (ih j g ∙ sym g) ∙ sym (position_no p x xs f) ∙ e

pub none_yet : {X : Type 0} (p : X → Bool) (xs : List X) (i : ℕ) (x : X) → i < length xs → x ≡ get_or xs i x → p x ≡ false → position p (take i xs) ≡ None → position p (take (i + 1) xs) ≡ None
none_yet p xs i x within is no_ before =
    ap (position p) (take_more xs i x within ∙ ap (λ y. take i xs ++ y ∷ []) (sym is))
    ∙ place_pushed p (take i xs) x
    ∙ ap (λ o. option_or o (cond (p x) (Some (length (take i xs))) None)) before
    ∙ ap (λ b. cond {A = Option ℕ} b (Some (length (take i xs))) None) no_

pub found_now : {X : Type 0} (p : X → Bool) (xs : List X) (i : ℕ) (x : X) → i < length xs → x ≡ get_or xs i x → p x ≡ true → position p (take i xs) ≡ None → position p xs ≡ Some i
found_now p xs i x within is yes_ before =
    let front : length (take i xs) ≡ i = omega (arith, length-take i xs) in
    let here : position p (take (i + 1) xs) ≡ Some i =
    ap (position p) (take_more xs i x within ∙ ap (λ y. take i xs ++ y ∷ []) (sym is))
    ∙ place_pushed p (take i xs) x
    ∙ ap (λ o. option_or o (cond (p x) (Some (length (take i xs))) None)) before
    ∙ ap (λ b. cond {A = Option ℕ} b (Some (length (take i xs))) None) yes_
    ∙ ap (λ n. Some n) front in
    ap (position p) (sym (take-append-drop (i + 1) xs)) ∙ found_first p (take (i + 1) xs) (drop (i + 1) xs) i here

pub any_longer : {X : Type 0} (P : X → Type 0) (xs : List X) (y : X) → Any P xs → Any P (xs ++ y ∷ [])
any_longer {X} P xs y h =
    let longer : h.0 < length (xs ++ y ∷ []) = omega (arith, length-append xs (y ∷ []), h.2) in
    (h.0, h.1, longer, get_or_append_left xs (y ∷ []) h.1 h.0 h.2 ∙ h.3, h.4)
