-- Splitting a seat off and joining two keep the rule.
use Rattle.std.proofs.Common.{◌≡◌, ℕ, ◌<◌, List, [], ◌∷◌, set, sym, ap, ◌∙◌, subst, inl, inr, ⊎_elim, arith}
use Rattle.std.proofs.lemmas.List.Sums.{sum_by_push}
use mathlib.Core.Option.{some}
use lib.ListN.{get_elem?}
use Rattle.atomic_table.specs.Table.{State, Splits, Joins}
use Rattle.atomic_table.proofs.Lists.{set_else, at_longer}
use Rattle.turn_desk.specs.declared.held.Note.{Note}
use Rattle.turn_desk.specs.declared.view.Stage.TheVariants.{Spent, Idle}
use Rattle.turn_desk.specs.declared.view.View.{View}
use Rattle.turn_desk.specs.declared.view.Slot.{Slot}
use Rattle.turn_desk.specs.Notes.{size_of, IsSound, IsApart, kept_part, given_part, joined_note}
use Rattle.turn_desk.specs.Rule.{IsPresent, IsAside, tickets_of, HasTicket, IsInLine, if_present, size_in, tickets_in, Stands, Turns, view_at}
use Rattle.turn_desk.proofs.Numbers.{apart_back, kept_sound, given_sound, parts_size, parts_apart, kept_apart, given_apart, joined_sound, joined_size, joined_apart}
use Rattle.turn_desk.proofs.Stages.{present_size}
use Rattle.turn_desk.proofs.Views.{same_at, each_set, each_longer, set_swap, Pairs, pairs_set, pairs_longer, sum_set}

module _ {V A C : Type 0} (fits : V → C → Note A → Type 0) (constant : C) where
  abbrev W : Type 0
  W = View V A C

  abbrev Rule : State (Slot V A) W → Type 0
  Rule = Turns fits constant

  module _ (s : State (Slot V A) W) (r : Rule s) (id : ℕ) (v : W) (idle : v.stage ≡ Idle) (at : get_elem? s.views id ≡ some v) where
    here : IsPresent v.stage
    here = subst IsPresent (sym idle) tt

    -- an idle pass has no ticket
    no_ticket : (u : ℕ) → HasTicket u v.stage → ⊥
    no_ticket u has = subst (HasTicket u) idle has

    aside : IsAside v.stage
    aside = subst IsAside (sym idle) tt

    in_line : (value : V) → IsInLine r.serving r.drawn value v.stage
    in_line value = subst (IsInLine r.serving r.drawn value) (sym idle) tt

    -- who is in turn is another pass
    busy_is_other : (j : ℕ) (d : W) → get_elem? s.views j ≡ some d → (IsAside d.stage → ⊥) → ¬ (j ≡ id)
    busy_is_other j d a busy e = busy (subst (λ (x : W). IsAside x.stage) (same_at s.views id v d at (subst (λ (k : ℕ). get_elem? s.views k ≡ some d) e a)) aside)

  pub splits : (id : ℕ) (v : W) (a b : A) → v.stage ≡ Idle → 0 < v.note.free
      → ((x : V) → IsSound v.note → fits x constant v.note → fits x constant (kept_part a v.note) × fits x constant (given_part b v.note))
      → Splits Rule id v (view_at (kept_part a v.note) v.constant v.stage) (view_at (given_part b v.note) v.constant Idle)
  splits id v a b idle free parts s r at =
      let left : W = view_at (kept_part a v.note) v.constant v.stage in let right : W = view_at (given_part b v.note) v.constant Idle in
      let present = here s r id v idle at in let mine = r.each id v at present in let both = parts r.value mine.sound mine.fitting in
      let vs : List W = set s.views id left in
      let apart' = pairs_set (λ v w. IsPresent v.stage → IsPresent w.stage → IsApart v.note w.note) s.views id left
      (λ j d away at'. (
        (λ _ p. kept_apart v.note mine.sound free a d.note (r.apart id j v d (λ e. away (sym e)) at at' present p)),
        (λ p _. apart_back left.note d.note (kept_apart v.note mine.sound free a d.note (r.apart id j v d (λ e. away (sym e)) at at' present p))),
      )) r.apart in
      let tickets' = λ (u : ℕ). pairs_set (λ v w. HasTicket u v.stage → HasTicket u w.stage → ⊥) s.views id left
      (λ j d _ _. ((λ mine _. no_ticket s r id v idle at u mine), (λ _ mine. no_ticket s r id v idle at u mine))) (λ i j v w. r.tickets i j u v w) in
      let out = r.out in let all = r.sizes in
      let count = sum_set tickets_in s.views id v left at in let more = sum_by_push tickets_in vs right in
      let size = sum_set size_in s.views id v left at in let larger = sum_by_push size_in vs right in
      let was : size_in v ≡ size_of v.note = present_size (size_of v.note) v.stage present in
      let is : size_in left ≡ size_of left.note = present_size (size_of left.note) v.stage present in
      let parted = parts_size v.note mine.sound free a b in record {
        drawn = r.drawn;
        serving = r.serving;
        value = r.value;
        words = r.words;
        out = omega arith;
        sizes = omega arith;
        each = each_longer (λ j d. IsPresent d.stage → Stands fits constant r.value d) vs right (λ _. record { sound = given_sound v.note mine.sound free b; constant_is = mine.constant_is; fitting = both.1 })
            (each_set (λ j d. IsPresent d.stage → Stands fits constant r.value d) s.views id left (λ _. record { sound = kept_sound v.note mine.sound free a; constant_is = mine.constant_is; fitting = both.0 })
            (λ j d _ at'. r.each j d at'));
        line = each_longer (λ j d. IsInLine r.serving r.drawn r.value d.stage) vs right tt
            (each_set (λ j d. IsInLine r.serving r.drawn r.value d.stage) s.views id left (in_line s r id v idle at r.value) (λ j d _ at'. r.line j d at'));
        apart = pairs_longer (λ v w. IsPresent v.stage → IsPresent w.stage → IsApart v.note w.note) vs right
            (each_set (λ j d. (IsPresent right.stage → IsPresent d.stage → IsApart right.note d.note) × (IsPresent d.stage → IsPresent right.stage → IsApart d.note right.note)) s.views id left
            ((λ _ _. apart_back left.note right.note (parts_apart v.note mine.sound free a b)), (λ _ _. parts_apart v.note mine.sound free a b))
            (λ j d away at'. (
              (λ _ p. given_apart v.note mine.sound free b d.note (r.apart id j v d (λ e. away (sym e)) at at' present p)),
              (λ p _. apart_back right.note d.note (given_apart v.note mine.sound free b d.note (r.apart id j v d (λ e. away (sym e)) at at' present p))),
            ))) apart';
        tickets = λ i j u x y. pairs_longer (λ v w. HasTicket u v.stage → HasTicket u w.stage → ⊥) vs right (λ j d _. ((λ none _. none), (λ _ none. none))) (tickets' u) i j x y;
        slot = ⊎_elim
            (λ home. inl (home.0, each_longer (λ j d. IsAside d.stage) vs right tt (each_set (λ j d. IsAside d.stage) s.views id left (aside s r id v idle at) (λ j d _ at'. home.1 j d at'))))
            (λ busy. inr (
              busy.0,
              busy.1,
              busy.2,
              at_longer vs (right ∷ []) busy.1 busy.2 (set_else s.views id busy.1 left (busy_is_other s r id v idle at busy.1 busy.2 busy.3 busy.4) ∙ busy.3),
              busy.4,
            )) r.slot;
      }

  pub joins : (id other : ℕ) (v w : W) (about : A) → v.stage ≡ Idle → w.stage ≡ Idle
      → ((x : V) → IsSound v.note → IsSound w.note → IsApart v.note w.note → fits x constant v.note → fits x constant w.note → fits x constant (joined_note about v.note w.note))
      → (gone : W) → gone.stage ≡ Spent
      → Joins Rule id v other w (view_at (joined_note about v.note w.note) v.constant v.stage) gone
  joins id other v w about idle idle' joined gone spent s r at away there =
      let both : W = view_at (joined_note about v.note w.note) v.constant v.stage in let vs : List W = set s.views id both in
      let at' : get_elem? s.views other ≡ some w = sym (set_else s.views id other both away) ∙ there in
      let present = here s r id v idle at in let present' = here s r other w idle' at' in
      let mine = r.each id v at present in let theirs = r.each other w at' present' in
      let one = r.apart id other v w (λ e. away (sym e)) at at' present present' in
      let note : Note A = joined_note about v.note w.note in
      let out = r.out in let all = r.sizes in
      let count = sum_set tickets_in s.views id v both at in let less = sum_set tickets_in vs other w gone there in
      let none_out : tickets_in w ≡ 0 = ap tickets_of idle' in let none_left : tickets_in gone ≡ 0 = ap tickets_of spent in
      let size = sum_set size_in s.views id v both at in let smaller = sum_set size_in vs other w gone there in
      let was : size_in v ≡ size_of v.note = present_size (size_of v.note) v.stage present in
      let was' : size_in w ≡ size_of w.note = present_size (size_of w.note) w.stage present' in
      let is : size_in both ≡ size_of note = present_size (size_of note) v.stage present in
      let nothing : size_in gone ≡ 0 = ap (if_present (size_of gone.note)) spent in
      let sum = joined_size about v.note w.note in
      let not_there : IsPresent gone.stage → ⊥ = λ p. subst IsPresent spent p in
      let swapped = set_swap s.views id other both gone away in
      let Apart : W → W → Type 0 = λ x y. IsPresent x.stage → IsPresent y.stage → IsApart x.note y.note in
      let Unlike : ℕ → W → W → Type 0 = λ u x y. HasTicket u x.stage → HasTicket u y.stage → ⊥ in
      let from_both : (d : W) → IsApart v.note d.note → IsApart w.note d.note → Apart both d × Apart d both = λ d f g. (
        (λ _ _. joined_apart about v.note w.note d.note one f g),
        (λ _ _. apart_back note d.note (joined_apart about v.note w.note d.note one f g)),
      ) in record {
        drawn = r.drawn;
        serving = r.serving;
        value = r.value;
        words = r.words;
        out = omega arith;
        sizes = omega arith;
        each = each_set (λ j d. IsPresent d.stage → Stands fits constant r.value d) vs other gone (λ p. absurd (not_there p))
            (λ j d _. each_set (λ j d. IsPresent d.stage → Stands fits constant r.value d) s.views id both
            (λ _. record { sound = joined_sound about v.note w.note mine.sound theirs.sound one; constant_is = mine.constant_is; fitting = joined r.value mine.sound theirs.sound one mine.fitting theirs.fitting })
            (λ j d _ a. r.each j d a) j d);
        line = each_set (λ j d. IsInLine r.serving r.drawn r.value d.stage) vs other gone (subst (IsInLine r.serving r.drawn r.value) (sym spent) tt)
            (λ j d _. each_set (λ j d. IsInLine r.serving r.drawn r.value d.stage) s.views id both (in_line s r id v idle at r.value) (λ j d _ a. r.line j d a) j d);
        apart = subst (Pairs Apart) (sym swapped) (pairs_set Apart (set s.views other gone) id both
            (λ j d far a'. each_set (λ j d. ¬ (j ≡ id) → Apart both d × Apart d both) s.views other gone (λ _. ((λ _ p. absurd (not_there p)), (λ p _. absurd (not_there p))))
            (λ j d off a far. (
              (λ p q. (from_both d (r.apart id j v d (λ e. far (sym e)) at a present q) (r.apart other j w d (λ e. off (sym e)) at' a present' q)).0 p q),
              (λ q p. (from_both d (r.apart id j v d (λ e. far (sym e)) at a present q) (r.apart other j w d (λ e. off (sym e)) at' a present' q)).1 q p),
            )) j d a' far)
            (pairs_set Apart s.views other gone (λ j d _ _. ((λ p _. absurd (not_there p)), (λ _ p. absurd (not_there p)))) r.apart));
        tickets = λ i j u x y. subst (Pairs (Unlike u)) (sym swapped) (pairs_set (Unlike u) (set s.views other gone) id both
            (λ j d _ _. ((λ mine _. no_ticket s r id v idle at u mine), (λ _ mine. no_ticket s r id v idle at u mine)))
            (pairs_set (Unlike u) s.views other gone (λ j d _ _. ((λ none _. subst (HasTicket u) spent none), (λ _ none. subst (HasTicket u) spent none))) (λ i j v w. r.tickets i j u v w))) i j x y;
        slot = ⊎_elim
            (λ home. inl (home.0, each_set (λ j d. IsAside d.stage) vs other gone (subst IsAside (sym spent) tt) (λ j d _. each_set (λ j d. IsAside d.stage) s.views id both (aside s r id v idle at) (λ j d _ a. home.1 j d a) j d)))
            (λ busy. inr (
              busy.0,
              busy.1,
              busy.2,
              set_else vs other busy.1 gone (busy_is_other s r other w idle' at' busy.1 busy.2 busy.3 busy.4)
                  ∙ (set_else s.views id busy.1 both (busy_is_other s r id v idle at busy.1 busy.2 busy.3 busy.4) ∙ busy.3),
              busy.4,
            )) r.slot;
      }
