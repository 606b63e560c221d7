-- What `is_sorted_by` answers, where its closure tests that the second isn't lower than the first.
use Rattle.std.proofs.Common.{◌≡◌, ℕ, zero, suc, ◌+◌, ◌↔◌, Bool, true, false, not, List, [], ◌∷◌, get_or, refl, sym, subst, arith}
use Rattle.std.specs.Cmp.{IsTotalOrder}
use Rattle.std.specs.Fn.{Called, ComputesOnPairs}
use Rattle.std.specs.List.{IsAllAdjacentAnswer}
use Rattle.std.specs.List.Sorted.{IsSorted}
use Rattle.std.specs.Ordering.{is_lt}
use Rattle.std.specs.declared.cmp.Ordering.{Ordering}
use Rattle.std.proofs.lemmas.Bool.{false≢true}
use Rattle.std.proofs.lemmas.Cmp.{int_cmp_total, nat_cmp_total, on_total, then_total}
use Rattle.std.proofs.lemmas.Fn.{always_returns_same}
use Rattle.std.proofs.lemmas.List.Sorted.{ranks_by, sorted_far}
use Rattle.beam_values.specs.declared.piece.Piece.{Piece}
use Rattle.split_core.specs.Order.{piece_cmp, IsAscending}
use denote.Ref.{Bor}
use denote.Param.Members.{Mut}

not_false : (b : Bool) → true ≡ not b → b ≡ false
not_false true e = absurd cc
not_false false e = refl

not_true : (b : Bool) → false ≡ not b → b ≡ false → ⊥
not_true b e is = cc

sorted_by_answer : {X : Type 0} (R : X → X → Ordering) (xs : List X) (r : Bool) → IsAllAdjacentAnswer (λ x y b. b ≡ not (is_lt (R y x))) xs r → (r ≡ true) ↔ IsSorted R xs
sorted_by_answer R xs true answer =
    (λ yes k d low within. not_false (is_lt (R (get_or xs (k + 1) d) (get_or xs k d))) (answer k d within), λ up. refl)
sorted_by_answer R [] false answer = (λ fails. absurd (false≢true fails), λ up. absurd (omega (arith, answer.1)))
sorted_by_answer R (x ∷ xs) false answer =
    (λ fails. absurd (false≢true fails), λ up. absurd (not_true (is_lt (R (get_or (x ∷ xs) (answer.0 + 1) x) (get_or (x ∷ xs) answer.0 x))) (answer.2 x) (up answer.0 x (omega arith) answer.1)))

pub sorted_answer : {X F : Type 0} (R : X → X → Ordering) {g : Mut F (Bor X × (Bor X × Unit {0})) Bool} {f : F} (xs : List X) (r : Bool)
    → ((e : X → X → Bool) → ComputesOnPairs g e f → IsAllAdjacentAnswer (λ x y b. b ≡ e x y) xs r)
    → ((a : Bor X × (Bor X × Unit {0})) (s : Bool) (f' : F) → Called g f a s f' → (s ≡ not (is_lt (R a.1.0.now a.0.now))) × (f' ≡ f))
    → (r ≡ true) ↔ IsSorted R xs
sorted_answer {X} R {g = g} {f = f} xs r answer says =
    sorted_by_answer R xs r
    (answer (λ x y. not (is_lt (R y x))) (always_returns_same g (λ a s. s ≡ not (is_lt (R a.1.0.now a.0.now))) f says))

-- ---- pieces

piece_total : IsTotalOrder piece_cmp
piece_total =
    then_total (on_total (λ (p : Piece). p.node) nat_cmp_total)
    (then_total (on_total (λ (p : Piece). p.item) nat_cmp_total)
    (then_total (on_total (λ (p : Piece). p.range.from) nat_cmp_total)
    (then_total (on_total (λ (p : Piece). p.range.to) nat_cmp_total)
    (then_total (on_total (λ (p : Piece). p.seen) int_cmp_total) (on_total (λ (p : Piece). p.attempts) nat_cmp_total)))))

one_more : (k : ℕ) → suc k + 1 ≡ suc (k + 1)
one_more k = omega arith

pub ascending_where_sorted : (pieces : List Piece) → IsSorted piece_cmp pieces → IsAscending pieces
ascending_where_sorted [] up = tt
ascending_where_sorted (piece ∷ pieces) up = (
  λ k d within. sorted_far (λ a b. is_lt (piece_cmp a b)) (ranks_by piece_total (λ (p : Piece). p)) (piece ∷ pieces) up 0 (suc k) d (omega arith) (omega arith),
  ascending_where_sorted pieces (λ k d low within.
      subst (λ n. is_lt (piece_cmp (get_or (piece ∷ pieces) n d) (get_or pieces k d)) ≡ false) (one_more k) (up (suc k) d (omega arith) (omega arith))),
)

pub sorted_where_ascending : (pieces : List Piece) → IsAscending pieces → IsSorted piece_cmp pieces
sorted_where_ascending [] asc k d low within = absurd (omega (arith, within))
sorted_where_ascending (piece ∷ pieces) asc zero d low within = asc.0 0 d (omega (arith, within))
sorted_where_ascending (piece ∷ pieces) asc (suc k) d low within =
    subst (λ n. is_lt (piece_cmp (get_or (piece ∷ pieces) n d) (get_or pieces k d)) ≡ false) (sym (one_more k))
    (sorted_where_ascending pieces asc.1 k d (omega arith) (omega arith))
