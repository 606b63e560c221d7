-- The number of a cell: the first place that passes a test.
use Rattle.std.proofs.Common.{◌≡◌, ℕ, zero, suc, ◌+◌, ◌<◌, ◌≤◌, Bool, true, false, List, [], ◌∷◌, length, map, take, get_or, Some, None, refl, sym, ap, subst, ◌∙◌, arith}
use Rattle.std.specs.List.{All, position}
use Rattle.std.specs.Option.{option_map}
use Rattle.std.proofs.lemmas.List.{take_all}
use Rattle.std.proofs.lemmas.List.Elements.{All-head, All-tail, All-more}
use Rattle.cell_index.proofs.Indexing.{position_yes, position_no}

pub first_place : {X Y : Type 0} (p : X → Bool) (f : Y → X) (ys : List Y) (at : ℕ) (y : Y) → at < length ys → y ≡ get_or ys at y → p (f y) ≡ true
    → All (λ z. p (f z) ≡ false) (take at ys) → position p (map f ys) ≡ Some at
first_place p f [] at y less read own before = absurd (omega arith)
first_place p f (z ∷ ys) zero y less read own before = position_yes p (f z) (map f ys) (ap (λ x. p (f x)) (sym read) ∙ own)
first_place p f (z ∷ ys) (suc at) y less read own before =
    position_no p (f z) (map f ys) (All-head (λ x. p (f x) ≡ false) z (take at ys) before)
    ∙ ap (option_map suc) (first_place p f ys at y (omega arith) read own (All-tail (λ x. p (f x) ≡ false) z (take at ys) before))

none_of : {X Y : Type 0} (p : X → Bool) (f : Y → X) (ys : List Y) → All (λ z. p (f z) ≡ false) ys → position p (map f ys) ≡ None
none_of p f [] h = refl
none_of p f (z ∷ ys) h =
    position_no p (f z) (map f ys) (All-head (λ x. p (f x) ≡ false) z ys h) ∙ ap (option_map suc) (none_of p f ys (All-tail (λ x. p (f x) ≡ false) z ys h))

pub no_place : {X Y : Type 0} (p : X → Bool) (f : Y → X) (ys : List Y) (n : ℕ) → length ys ≤ n → All (λ z. p (f z) ≡ false) (take n ys) → position p (map f ys) ≡ None
no_place p f ys n all h = none_of p f ys (subst (All (λ z. p (f z) ≡ false)) (take_all n ys all) h)

pub one_place_more : {X Y : Type 0} (p : X → Bool) (f : Y → X) (ys : List Y) (at : ℕ) (y : Y) → at < length ys → y ≡ get_or ys at y → p (f y) ≡ false
    → All (λ z. p (f z) ≡ false) (take at ys) → All (λ z. p (f z) ≡ false) (take (at + 1) ys)
one_place_more p f ys at y less read off before = All-more (λ z. p (f z) ≡ false) ys at y less before (subst (λ x. p (f x) ≡ false) read off)
