-- Places rise exactly where each is below the next.
use Rattle.std.proofs.Common.{◌≡◌, ℕ, zero, suc, ◌+◌, ◌<◌, ◌↔◌, Bool, true, false, nat_lt, List, [], ◌∷◌, length, get_or, refl, sym, subst, lt_trans, arith, ltb-true, ltb-false}
use Rattle.std.specs.Fn.{Called, ComputesOnPairs}
use Rattle.std.specs.List.{All, AllAdjacentBelow, IsAllAdjacentAnswer}
use Rattle.std.proofs.lemmas.Bool.{false≢true}
use Rattle.std.proofs.lemmas.Fn.{always_returns_same}
use Rattle.piece_checks.specs.Places.{Ascend}
use denote.Ref.{Bor}
use denote.Param.Members.{Mut}

abbrev IsRising : List ℕ → Type 0
IsRising places = AllAdjacentBelow (λ x y. x < y) places (length places)

one_more : (k : ℕ) → suc k + 1 ≡ suc (k + 1)
one_more k = omega arith

rest_rises : (place : ℕ) (places : List ℕ) → IsRising (place ∷ places) → IsRising places
rest_rises place places up k d within = subst (λ n. get_or places k d < get_or (place ∷ places) n d) (one_more k) (up (suc k) d (omega arith))

first_below : (place : ℕ) (places : List ℕ) → IsRising (place ∷ places) → All (λ later. place < later) places
first_below place places up zero d within = up 0 d (omega arith)
first_below place places up (suc k) d within =
    lt_trans (first_below place places up k d (omega arith))
    (subst (λ n. get_or places k d < get_or (place ∷ places) n d) next (up (suc k) d (omega arith)))
  where
    next : suc k + 1 ≡ suc (suc k)
    next = omega arith

ascend_where_rising : (places : List ℕ) → IsRising places → Ascend places
ascend_where_rising [] up = tt
ascend_where_rising (place ∷ places) up = (first_below place places up, ascend_where_rising places (rest_rises place places up))

rising_where_ascend : (places : List ℕ) → Ascend places → IsRising places
rising_where_ascend [] asc k d within = absurd (omega (arith, within))
rising_where_ascend (place ∷ places) asc zero d within = asc.0 0 d (omega (arith, within))
rising_where_ascend (place ∷ places) asc (suc k) d within =
    subst (λ n. get_or places k d < get_or (place ∷ places) n d) (sym (one_more k)) (rising_where_ascend places asc.1 k d (omega arith))

by_answer : (places : List ℕ) (r : Bool) → IsAllAdjacentAnswer (λ x y b. b ≡ nat_lt x y) places r → (r ≡ true) ↔ Ascend places
by_answer places true answer =
    (λ yes. ascend_where_rising places (λ k d within. ltb-true (get_or places k d) (get_or places (k + 1) d) (sym (answer k d within))), λ asc. refl)
by_answer places false answer = (
  λ fails. absurd (false≢true fails),
  λ asc. absurd (omega (
    arith,
    rising_where_ascend places asc answer.0 0 answer.1,
    ltb-false (get_or places answer.0 0) (get_or places (answer.0 + 1) 0) (sym (answer.2 0)),
  )),
)

pub ascend_answer : {F : Type 0} {g : Mut F (Bor ℕ × (Bor ℕ × Unit {0})) Bool} {f : F} (places : List ℕ) (r : Bool)
    → ((e : ℕ → ℕ → Bool) → ComputesOnPairs g e f → IsAllAdjacentAnswer (λ x y b. b ≡ e x y) places r)
    → ((a : Bor ℕ × (Bor ℕ × Unit {0})) (s : Bool) (f' : F) → Called g f a s f' → (s ≡ nat_lt a.0.now a.1.0.now) × (f' ≡ f))
    → (r ≡ true) ↔ Ascend places
ascend_answer {g = g} {f = f} places r answer says =
    by_answer places r (answer (λ x y. nat_lt x y) (always_returns_same g (λ a s. s ≡ nat_lt a.0.now a.1.0.now) f says))
