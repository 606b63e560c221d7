-- The order of lists of bytes, part by part.
use Rattle.std.proofs.Common.{◌≡◌, ℕ, ◌<◌, List, [], ◌∷◌, ◌++◌, length, refl, sym, ap, ◌∙◌, append_assoc, arith}
use Rattle.std.specs.declared.cmp.Ordering.{Ordering}
use Rattle.std.specs.declared.cmp.Ordering.TheVariants.{Less, Equal, Greater}
use Rattle.std.specs.Ordering.{ordering_then, nat_cmp}
use Rattle.std.specs.Cmp.{nat_cmp_is}
use Rattle.std.specs.Cmp.Lexicographic.{slice_cmp}
use Rattle.std.proofs.lemmas.Cmp.{tied_itself, nat_list_cmp_total}
use Rattle.std.proofs.lemmas.Map.Lookups.{exact_bytes}

-- two fronts decide first, and what follows them only where they tie: neither begins the other
pub record DecideFirst (xs ys : List ℕ) : Type 0 where
  pub joined : (s t : List ℕ) → slice_cmp nat_cmp (xs ++ s) (ys ++ t) ≡ ordering_then (slice_cmp nat_cmp xs ys) (slice_cmp nat_cmp s t)

pub then_assoc : (a b c : Ordering) → ordering_then (ordering_then a b) c ≡ ordering_then a (ordering_then b c)
then_assoc Less b c = refl
then_assoc Equal b c = refl
then_assoc Greater b c = refl

pub tied : (xs : List ℕ) → slice_cmp nat_cmp xs xs ≡ Equal
tied xs = tied_itself nat_list_cmp_total xs

pub same_where_tied : (xs ys : List ℕ) → slice_cmp nat_cmp xs ys ≡ Equal → xs ≡ ys
same_where_tied xs ys e = exact_bytes xs ys e

pub head_below : (x y : ℕ) (xs ys : List ℕ) → x < y → slice_cmp nat_cmp (x ∷ xs) (y ∷ ys) ≡ Less
head_below x y xs ys lt = ap (λ (o : Ordering). ordering_then o (slice_cmp nat_cmp xs ys)) (sym (nat_cmp_is x y Less lt))

pub head_above : (x y : ℕ) (xs ys : List ℕ) → y < x → slice_cmp nat_cmp (x ∷ xs) (y ∷ ys) ≡ Greater
head_above x y xs ys lt = ap (λ (o : Ordering). ordering_then o (slice_cmp nat_cmp xs ys)) (sym (nat_cmp_is x y Greater lt))

pub same_head : (x : ℕ) (xs ys : List ℕ) → slice_cmp nat_cmp (x ∷ xs) (x ∷ ys) ≡ slice_cmp nat_cmp xs ys
same_head x xs ys = ap (λ (o : Ordering). ordering_then o (slice_cmp nat_cmp xs ys)) (sym (nat_cmp_is x x Equal refl))

pub decide-below : (x y : ℕ) (xs ys : List ℕ) → x < y → DecideFirst (x ∷ xs) (y ∷ ys)
decide-below x y xs ys lt = record {
  joined = λ s t. head_below x y (xs ++ s) (ys ++ t) lt ∙ sym (ap (λ (o : Ordering). ordering_then o (slice_cmp nat_cmp s t)) (head_below x y xs ys lt));
}

pub decide-above : (x y : ℕ) (xs ys : List ℕ) → y < x → DecideFirst (x ∷ xs) (y ∷ ys)
decide-above x y xs ys lt = record {
  joined = λ s t. head_above x y (xs ++ s) (ys ++ t) lt ∙ sym (ap (λ (o : Ordering). ordering_then o (slice_cmp nat_cmp s t)) (head_above x y xs ys lt));
}

pub decide-empty : DecideFirst [] []
decide-empty = record { joined = λ s t. refl }

-- one more byte before each
pub decide-∷ : (x y : ℕ) (xs ys : List ℕ) → DecideFirst xs ys → DecideFirst (x ∷ xs) (y ∷ ys)
decide-∷ x y xs ys d = record {
  joined = λ s t. ap (ordering_then (nat_cmp x y)) (d.joined s t) ∙ sym (then_assoc (nat_cmp x y) (slice_cmp nat_cmp xs ys) (slice_cmp nat_cmp s t));
}

-- fronts of one length
pub decide-long : (xs ys : List ℕ) → length xs ≡ length ys → DecideFirst xs ys
decide-long [] [] e = decide-empty
decide-long [] (y ∷ ys) e = absurd (omega arith)
decide-long (x ∷ xs) [] e = absurd (omega arith)
decide-long (x ∷ xs) (y ∷ ys) e = decide-∷ x y xs ys (decide-long xs ys (omega arith))

-- two parts, of which the second matters only where the first ones tie
pub decide-++ : (a b c d : List ℕ) → DecideFirst a b → (a ≡ b → DecideFirst c d) → DecideFirst (a ++ c) (b ++ d)
decide-++ a b c d first second = record {
  joined = λ s t.
      ap (slice_cmp nat_cmp ((a ++ c) ++ s)) (append_assoc b d t)
      ∙ ap (λ (x : List ℕ). slice_cmp nat_cmp x (b ++ (d ++ t))) (append_assoc a c s)
      ∙ first.joined (c ++ s) (d ++ t)
      ∙ step s t (slice_cmp nat_cmp a b) refl
      ∙ sym (then_assoc (slice_cmp nat_cmp a b) (slice_cmp nat_cmp c d) (slice_cmp nat_cmp s t))
      ∙ ap (λ (o : Ordering). ordering_then o (slice_cmp nat_cmp s t)) (sym (first.joined c d));
}
  where
    step : (s t : List ℕ) (o : Ordering) → slice_cmp nat_cmp a b ≡ o
        → ordering_then o (slice_cmp nat_cmp (c ++ s) (d ++ t)) ≡ ordering_then o (ordering_then (slice_cmp nat_cmp c d) (slice_cmp nat_cmp s t))
    step s t Less e = refl
    step s t Equal e = (second (same_where_tied a b e)).joined s t
    step s t Greater e = refl

-- joined texts that are the same have the same fronts, and the same after them
pub split_same : (xs ys s t : List ℕ) → DecideFirst xs ys → xs ++ s ≡ ys ++ t → (xs ≡ ys) × (s ≡ t)
split_same xs ys s t d e =
    let all : ordering_then (slice_cmp nat_cmp xs ys) (slice_cmp nat_cmp s t) ≡ Equal =
    sym (d.joined s t) ∙ ap (λ (x : List ℕ). slice_cmp nat_cmp x (ys ++ t)) e ∙ tied (ys ++ t) in
    by_parts (slice_cmp nat_cmp xs ys) (slice_cmp nat_cmp s t) refl refl all
  where
    by_parts : (a b : Ordering) → slice_cmp nat_cmp xs ys ≡ a → slice_cmp nat_cmp s t ≡ b → ordering_then a b ≡ Equal → (xs ≡ ys) × (s ≡ t)
    by_parts Less b p q e = absurd cc
    by_parts Greater b p q e = absurd cc
    by_parts Equal b p q e = (same_where_tied xs ys p, same_where_tied s t (q ∙ e))
