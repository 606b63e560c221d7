-- A list whose first item is taken out, and put behind the last if it is left.
use Rattle.std.proofs.Common.{◌≡◌, ℕ, ◌+◌, ◌<◌, Bool, List, [], ◌∷◌, ◌++◌, length, take, drop, get_or, Option, sym, ap, ◌∙◌, append_assoc}
use Rattle.std.specs.Prelude.{option_to_list}
use Rattle.std.specs.List.{filter}
use Rattle.std.proofs.lemmas.List.{drop_more, take_more}
use Rattle.std.proofs.lemmas.List.Elements.{filter-append}

pub record IsTurned {X : Type 0} (p : X → Bool) (xs : List X) (i : ℕ) (x : X) (new : List X) : Type 0 where
  pub first : drop i xs ≡ x ∷ drop (i + 1) xs
  pub taken : take (i + 1) xs ≡ take i xs ++ x ∷ []
  pub turned : new ≡ drop (i + 1) xs ++ filter p (take (i + 1) xs)

same_first : {X : Type 0} (x y : X) (xs ys : List X) → x ∷ xs ≡ y ∷ ys → x ≡ y
same_first x y xs ys e = cc

same_rest : {X : Type 0} (x y : X) (xs ys : List X) → x ∷ xs ≡ y ∷ ys → xs ≡ ys
same_rest x y xs ys e = cc

pub turn_first : {X : Type 0} (p : X → Bool) (xs : List X) (i : ℕ) (queue popped : List X) (x : X) → i < length xs
    → queue ≡ drop i xs ++ filter p (take i xs) → queue ≡ x ∷ popped → drop i xs ≡ x ∷ drop (i + 1) xs
turn_first p xs i queue popped x less before pops =
    let whole : get_or xs i x ∷ (drop (i + 1) xs ++ filter p (take i xs)) ≡ x ∷ popped =
    ap (λ l. l ++ filter p (take i xs)) (sym (drop_more xs i x less)) ∙ sym before ∙ pops in
    drop_more xs i x less ∙ ap (λ y. y ∷ drop (i + 1) xs) (same_first (get_or xs i x) x (drop (i + 1) xs ++ filter p (take i xs)) popped whole)

pub turn_once : {X : Type 0} (p : X → Bool) (xs : List X) (i : ℕ) (queue popped new : List X) (x : X) (left : Option X) → i < length xs
    → queue ≡ drop i xs ++ filter p (take i xs) → queue ≡ x ∷ popped → option_to_list left ≡ filter p (x ∷ []) → new ≡ popped ++ option_to_list left
    → IsTurned p xs i x new
turn_once p xs i queue popped new x left less before pops keeps puts =
    let whole : get_or xs i x ∷ (drop (i + 1) xs ++ filter p (take i xs)) ≡ x ∷ popped =
    ap (λ l. l ++ filter p (take i xs)) (sym (drop_more xs i x less)) ∙ sym before ∙ pops in
    let own = same_first (get_or xs i x) x (drop (i + 1) xs ++ filter p (take i xs)) popped whole in
    let rest = same_rest (get_or xs i x) x (drop (i + 1) xs ++ filter p (take i xs)) popped whole in
    let taken_ = take_more xs i x less ∙ ap (λ y. take i xs ++ y ∷ []) own in
    record {
      first = drop_more xs i x less ∙ ap (λ y. y ∷ drop (i + 1) xs) own;
      taken = taken_;
      turned = puts ∙ ap (λ l. popped ++ l) keeps ∙ ap (λ l. l ++ filter p (x ∷ [])) (sym rest)
          ∙ append_assoc (drop (i + 1) xs) (filter p (take i xs)) (filter p (x ∷ []))
          ∙ ap (λ l. drop (i + 1) xs ++ l) (sym (filter-append p (take i xs) (x ∷ [])) ∙ ap (filter p) (sym taken_));
    }
