-- What is noted of the panes that are held, one after another.
use Rattle.std.proofs.Common.{◌≡◌, ℕ, ◌+◌, ◌<◌, ◌≤◌, ◌≢◌, Bool, true, false, cond, ◌==◌, nat_lt, List, [], length, get_or, set, take, slice_get, Some, None, ◌↔◌, count_by, refl, sym, ap, subst, ◌∙◌, arith, eq-eqb, eqb-true, take_all, get_or-set_same, get_or-set_other, length-set, ltb-false, lt-ltb, ltb-true, false-eqb}
use Rattle.std.specs.List.{All}
use Rattle.std.proofs.lemmas.List.Elements.{All-more, All-nil}
use Rattle.std.proofs.lemmas.List.Sums.{sum_by_more, sum_by-take-le}
use Rattle.beam_values.specs.declared.cell.Pane.{Pane}
use Rattle.piece_checks.specs.Places.{AreHeldOnce, IsHeldAt, is_at}
use Rattle.piece_checks.specs.declared.places.HeldPlace.{HeldPlace}

-- a place is noted exactly where one of these is held there, and none is held twice
pub record AreNoted (panes : List Pane) (held : List HeldPlace) (seen : List Bool) : Type 0 where
  pub sized : length seen ≡ length panes
  pub noted : (place : ℕ) (d : Bool) → place < length panes → get_or seen place d ≡ nat_lt 0 (count_by (is_at place) held)
  pub at_panes : All (IsHeldAt panes) held
  pub once : (place : ℕ) → count_by (is_at place) held ≤ 1

pub none_noted : (panes : List Pane) (seen : List Bool) → length seen ≡ length panes → ((k : ℕ) (d : Bool) → k < length panes → get_or seen k d ≡ false)
    → AreNoted panes [] seen
none_noted panes seen sized none = record {
  sized = sized;
  noted = none;
  at_panes = All-nil (IsHeldAt panes);
  once = λ place. omega arith;
}

module _ (panes : List Pane) (held : List HeldPlace) (i : ℕ) (d : HeldPlace) (within : i < length held) where
  abbrev at : ℕ
  at = (get_or held i d).pane

  more : (place : ℕ) → count_by (is_at place) (take (i + 1) held) ≡ count_by (is_at place) (take i held) + cond (at == place) 1 0
  more place = sum_by_more (λ (h : HeldPlace). cond (is_at place h) 1 0) held i d within

  one_here : count_by (is_at at) (take (i + 1) held) ≡ count_by (is_at at) (take i held) + 1
  one_here = more at ∙ ap (λ b. count_by (is_at at) (take i held) + cond b 1 0) (eq-eqb at at refl)

  none_there : (place : ℕ) → (at == place) ≡ false → count_by (is_at place) (take (i + 1) held) ≡ count_by (is_at place) (take i held)
  none_there place e = omega (arith, more place, ap (λ (b : Bool). cond {A = ℕ} b 1 0) e)

  module _ (seen : List Bool) (noted : AreNoted panes (take i held) seen) where
    not_here : (e : Bool) → at < length panes → get_or seen at e ≡ false → count_by (is_at at) (take i held) ≡ 0
    not_here e inside new = omega (arith, ltb-false 0 (count_by (is_at at) (take i held)) (sym (noted.noted at e inside) ∙ new))

    pub noted_more : (e : Bool) → IsHeldAt panes (get_or held i d) → at < length panes → get_or seen at e ≡ false
        → AreNoted panes (take (i + 1) held) (set seen at true)
    noted_more e is inside new = record {
      sized = length-set seen at true ∙ noted.sized;
      noted = λ place other below. here place other below (at == place) refl;
      at_panes = All-more (IsHeldAt panes) held i d within noted.at_panes is;
      once = λ place. at_most place (at == place) refl;
    }
      where
        apart : (place : ℕ) → (at == place) ≡ false → place ≢ at
        apart place same = λ is. false-eqb at place (sym same) (sym is)

        here : (place : ℕ) (other : Bool) → place < length panes → (same : Bool) → (at == place) ≡ same
            → get_or (set seen at true) place other ≡ nat_lt 0 (count_by (is_at place) (take (i + 1) held))
        here place other below true same =
            subst (λ p. get_or (set seen at true) p other ≡ nat_lt 0 (count_by (is_at p) (take (i + 1) held))) (eqb-true at place same)
            (get_or-set_same seen at true other (omega (arith, noted.sized, inside))
            ∙ sym (lt-ltb 0 (count_by (is_at at) (take (i + 1) held)) (omega (arith, one_here))))
        here place other below false same =
            get_or-set_other seen at place true other (apart place same)
            ∙ noted.noted place other below
            ∙ ap (λ n. nat_lt 0 n) (sym (none_there place same))

        at_most : (place : ℕ) (same : Bool) → (at == place) ≡ same → count_by (is_at place) (take (i + 1) held) ≤ 1
        at_most place true same =
            subst (λ p. count_by (is_at p) (take (i + 1) held) ≤ 1) (eqb-true at place same) (omega (arith, one_here, not_here e inside new))
        at_most place false same = omega (arith, none_there place same, noted.once place)

    -- what is held at a place that was noted is held twice
    pub held_twice : (e : Bool) → at < length panes → get_or seen at e ≡ true → AreHeldOnce panes held → ⊥
    held_twice e inside old once =
        omega (
          arith,
          one_here,
          ltb-true 0 (count_by (is_at at) (take i held)) (sym (noted.noted at e inside) ∙ old),
          once.once at,
          sum_by-take-le (λ (h : HeldPlace). cond (is_at at h) 1 0) held (i + 1),
        )

pub all_noted : (panes : List Pane) (held : List HeldPlace) (seen : List Bool) (i : ℕ) → length held ≤ i → AreNoted panes (take i held) seen → AreHeldOnce panes held
all_noted panes held seen i all noted =
    let whole = take_all i held all in
    record {
      at_panes = subst (All (IsHeldAt panes)) whole noted.at_panes;
      once = λ place. subst (λ l. count_by (is_at place) l ≤ 1) whole (noted.once place);
    }

-- ---- one that is held

pub held_here : (panes : List Pane) (held : HeldPlace) (pane : Pane) → slice_get panes held.pane ≡ Some pane → ((pane.node == held.node) ≡ true) ↔ IsHeldAt panes held
held_here panes held pane at = (
  λ same. (pane, at, eqb-true pane.node held.node same),
  λ is.
      let one : pane ≡ is.0 = some_same pane is.0 (sym at ∙ is.1) in
      eq-eqb pane.node held.node (ap (λ (p : Pane). p.node) one ∙ is.2),
)
  where
    some_same : (a b : Pane) → Some a ≡ Some b → a ≡ b
    some_same a b e = cc

pub held_nowhere : (panes : List Pane) (held : HeldPlace) → slice_get panes held.pane ≡ None → (false ≡ true) ↔ IsHeldAt panes held
held_nowhere panes held at = (λ fails. absurd cc, λ is. absurd (none_some is.0 (sym at ∙ is.1)))
  where
    none_some : (a : Pane) → None ≡ Some a → ⊥
    none_some a e = cc
