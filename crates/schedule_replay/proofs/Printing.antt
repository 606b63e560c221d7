-- Items of a list are printed one after another.
use Rattle.std.proofs.Common.{◌≡◌, ℕ, ◌+◌, ◌<◌, List, [], ◌∷◌, ◌++◌, length, get_or, take, sym, ap, ◌∙◌, append_assoc}
use Rattle.std.specs.Prelude.{Result, Ok, Err, OnOk}
use Rattle.std.specs.List.{flat_map}
use Rattle.std.proofs.lemmas.List.{flat_map_more, take_more}

module _ {A : Type 0} (f : A → List ℕ) (old out new : List ℕ) where
  -- one more
  pub printed_more : (xs : List A) (x : A) → out ≡ old ++ flat_map f xs → new ≡ out ++ f x → new ≡ old ++ flat_map f (xs ++ x ∷ [])
  printed_more xs x so_far more = more ∙ ap (λ (l : List ℕ). l ++ f x) so_far ∙ flat_map_more f old xs x

  -- the one at this index
  pub printed_to : (xs : List A) (i : ℕ) (x : A) → i < length xs → x ≡ get_or xs i x → out ≡ old ++ flat_map f (take i xs) → new ≡ out ++ f x → new ≡ old ++ flat_map f (take (i + 1) xs)
  printed_to xs i x inside is so_far more =
      let next : take i xs ++ x ∷ [] ≡ take (i + 1) xs = ap (λ (y : A). take i xs ++ y ∷ []) is ∙ sym (take_more xs i x inside) in
      printed_more (take i xs) x so_far more ∙ ap (λ (l : List A). old ++ flat_map f l) next

-- what is printed, whatever is answered next
pub printed_anyhow : {T E Q : Type 0} (r : Result T E) → Q → OnOk r Q
printed_anyhow (Ok x) is = is
printed_anyhow (Err e) is = tt

-- ---- one text behind another

regroup : (a b c d e f : List ℕ) → ((((a ++ b) ++ c) ++ d) ++ e) ++ f ≡ a ++ (b ++ (c ++ (d ++ (e ++ f))))
regroup a b c d e f = simp append_assoc

pub printed_in_turn : (old first second third fourth new a b c d e : List ℕ) → first ≡ old ++ a → second ≡ first ++ b → third ≡ second ++ c → fourth ≡ third ++ d → new ≡ fourth ++ e
    → new ≡ old ++ (a ++ (b ++ (c ++ (d ++ e))))
printed_in_turn old first second third fourth new a b c d e one two three four five =
    five
    ∙ ap (λ (l : List ℕ). l ++ e) (four ∙ ap (λ (l : List ℕ). l ++ d) (three ∙ ap (λ (l : List ℕ). l ++ c) (two ∙ ap (λ (l : List ℕ). l ++ b) one)))
    ∙ regroup old a b c d e

pub printed_behind : (a b c d e f g : List ℕ) → (a ++ (b ++ (c ++ (d ++ (e ++ f))))) ++ g ≡ a ++ (b ++ (c ++ (d ++ (e ++ (f ++ g)))))
printed_behind a b c d e f g = simp append_assoc
