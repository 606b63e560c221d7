-- Panes that wait are in the order in which they fired exactly where each is before the next.
use Rattle.std.proofs.Common.{◌≡◌, ℕ, zero, suc, ◌+◌, ◌<◌, ◌↔◌, pos, Bool, true, false, nat_lt}
use Rattle.std.proofs.Common.{List, [], ◌∷◌, length, get_or, refl, sym, subst, lt_trans, arith, ltb-true, ltb-false}
use Rattle.std.specs.Fn.{Called, ComputesOnPairs}
use Rattle.std.specs.List.{All, AllAdjacentBelow, IsAllAdjacentAnswer}
use Rattle.std.proofs.lemmas.Bool.{false≢true}
use Rattle.std.proofs.lemmas.Fn.{always_returns_same}
use Rattle.book_core.specs.Sane.{AscendByPane}
use Rattle.book_core.specs.declared.live.WaitingPane.{WaitingPane}
use denote.Ref.{Bor}
use denote.Param.Members.{Mut}

abbrev IsRising : List WaitingPane → Type 0
IsRising panes = AllAdjacentBelow (λ x y. x.pane < y.pane) panes (length panes)

one_more : (k : ℕ) → suc k + 1 ≡ suc (k + 1)
one_more k = omega arith

rest_rises : (first : WaitingPane) (panes : List WaitingPane) → IsRising (first ∷ panes) → IsRising panes
rest_rises first panes up k d within = subst (λ n. (get_or panes k d).pane < (get_or (first ∷ panes) n d).pane) (one_more k) (up (suc k) d (omega arith))

first_below : (first : WaitingPane) (panes : List WaitingPane) → IsRising (first ∷ panes) → All (λ later. first.pane < later.pane) panes
first_below first panes up zero d within = up 0 d (omega arith)
first_below first panes up (suc k) d within =
    lt_trans (first_below first panes up k d (omega arith))
    (subst (λ n. (get_or panes k d).pane < (get_or (first ∷ panes) n d).pane) next (up (suc k) d (omega arith)))
  where
    next : suc k + 1 ≡ suc (suc k)
    next = omega arith

ascend_where_rising : (panes : List WaitingPane) → IsRising panes → AscendByPane panes
ascend_where_rising [] up = tt
ascend_where_rising (first ∷ panes) up = (first_below first panes up, ascend_where_rising panes (rest_rises first panes up))

rising_where_ascend : (panes : List WaitingPane) → AscendByPane panes → IsRising panes
rising_where_ascend [] asc k d within = absurd (omega (arith, within))
rising_where_ascend (first ∷ panes) asc zero d within = asc.0 0 d (omega (arith, within))
rising_where_ascend (first ∷ panes) asc (suc k) d within =
    subst (λ n. (get_or panes k d).pane < (get_or (first ∷ panes) n d).pane) (sym (one_more k)) (rising_where_ascend panes asc.1 k d (omega arith))

some_pane : WaitingPane
some_pane = record { pane = 0; hold = pos 0 }

by_answer : (panes : List WaitingPane) (r : Bool) → IsAllAdjacentAnswer (λ x y b. b ≡ nat_lt x.pane y.pane) panes r → (r ≡ true) ↔ AscendByPane panes
by_answer panes true answer =
    (λ yes. ascend_where_rising panes (λ k d within. ltb-true (get_or panes k d).pane (get_or panes (k + 1) d).pane (sym (answer k d within))), λ asc. refl)
by_answer panes false answer = (
  λ fails. absurd (false≢true fails),
  λ asc. absurd (omega (
    arith,
    rising_where_ascend panes asc answer.0 some_pane answer.1,
    ltb-false (get_or panes answer.0 some_pane).pane (get_or panes (answer.0 + 1) some_pane).pane (sym (answer.2 some_pane)),
  )),
)

pub ascend_answer : {F : Type 0} {g : Mut F (Bor WaitingPane × (Bor WaitingPane × Unit {0})) Bool} {f : F} (panes : List WaitingPane) (r : Bool)
    → ((e : WaitingPane → WaitingPane → Bool) → ComputesOnPairs g e f → IsAllAdjacentAnswer (λ x y b. b ≡ e x y) panes r)
    → ((a : Bor WaitingPane × (Bor WaitingPane × Unit {0})) (s : Bool) (f' : F) → Called g f a s f' → (s ≡ nat_lt a.0.now.pane a.1.0.now.pane) × (f' ≡ f))
    → (r ≡ true) ↔ AscendByPane panes
ascend_answer {g = g} {f = f} panes r answer says =
    by_answer panes r (answer (λ x y. nat_lt x.pane y.pane) (always_returns_same g (λ a s. s ≡ nat_lt a.0.now.pane a.1.0.now.pane) f says))
