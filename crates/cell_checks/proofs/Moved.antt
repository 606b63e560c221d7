-- What is asked of the cells of each Group and key asks for no order of all cells.
use Rattle.std.proofs.Common.{◌≡◌, ℕ, ℤ, Bool, true, false, cond, ◌&&◌, ◌||◌, List, [], ◌∷◌, refl, sym, ap, subst, ◌∙◌, arith}
use Rattle.std.specs.Prelude.{Contains}
use Rattle.std.specs.List.{count_by, filter, list_any}
use Rattle.std.specs.List.Sorted.{IsPermutation}
use Rattle.std.proofs.lemmas.List.Elements.{All-contains}
use Rattle.std.proofs.lemmas.List.Sorted.{Contains-permutation, IsPermutation-sym, list_any-IsPermutation, sum_by-IsPermutation}
use Rattle.std.proofs.lemmas.List.Sums.{sum_by-cons}
use Rattle.beam_values.specs.Intervals.{Interval}
use Rattle.beam_values.specs.Marks.{marks_at}
use Rattle.beam_values.specs.Sessions.{IsNonEmpty}
use Rattle.beam_values.specs.Spans.{same_span}
use Rattle.beam_values.specs.declared.cell.Cell.{Cell}
use Rattle.beam_values.specs.declared.marks.StageMarks.{StageMarks}
use Rattle.beam_values.specs.declared.plan.Plan.{Plan}
use Rattle.beam_model.specs.Panes.{GroupRules, is_cell_at_key, rules_of}
use Rattle.session_merge.proofs.Lists.{all_of, contains_filter, contains_filtered}
use Rattle.group_cells.specs.Rounds.{is_open, open_windows}
use Rattle.group_cells.specs.Sane.{HasTaker, stands_round}
use Rattle.group_cells.proofs.MetPlaces.{has_map, map_has}
use Rattle.cell_checks.specs.Listing.{AreSaneGroups, IsSaneGroup}

-- what passes both tests
count_filtered : {X : Type 0} (p q : X → Bool) (xs : List X) → count_by q (filter p xs) ≡ count_by (λ x. p x && q x) xs
count_filtered p q [] = refl
count_filtered p q (x ∷ xs) = by (p x) refl (count_filtered p q xs)
  where
    by : (t : Bool) → p x ≡ t → count_by q (filter p xs) ≡ count_by (λ y. p y && q y) xs
        → count_by q (cond t (x ∷ filter p xs) (filter p xs)) ≡ count_by (λ y. p y && q y) (x ∷ xs)
    by true e rest =
        let here : cond {A = ℕ} (p x && q x) 1 0 ≡ cond {A = ℕ} (q x) 1 0 = ap (λ (b : Bool). cond {A = ℕ} (b && q x) 1 0) e in
        omega (arith, sum_by-cons (λ (y : _). cond {A = ℕ} (q y) 1 0) x (filter p xs), sum_by-cons (λ (y : _). cond {A = ℕ} (p y && q y) 1 0) x xs)
    by false e rest =
        let here : cond {A = ℕ} (p x && q x) 1 0 ≡ 0 = ap (λ (b : Bool). cond {A = ℕ} (b && q x) 1 0) e in
        omega (arith, sum_by-cons (λ (y : _). cond {A = ℕ} (p y && q y) 1 0) x xs)

any_filtered : {X : Type 0} (p q : X → Bool) (xs : List X) → list_any q (filter p xs) ≡ list_any (λ x. p x && q x) xs
any_filtered p q [] = refl
any_filtered p q (x ∷ xs) = by (p x) (any_filtered p q xs)
  where
    by : (t : Bool) → list_any q (filter p xs) ≡ list_any (λ y. p y && q y) xs → list_any q (cond t (x ∷ filter p xs) (filter p xs)) ≡ ((t && q x) || list_any (λ y. p y && q y) xs)
    by true rest = ap (λ b. q x || b) rest
    by false rest = rest

module _ (rules : GroupRules) (mark : ℤ) (p : Cell → Bool) (xs ys : List Cell) (moved : IsPermutation xs ys) where
  back : (cell : Cell) → Contains (filter p ys) cell → Contains (filter p xs) cell
  back cell at =
      let parts = contains_filtered p ys cell at in
      contains_filter p xs cell (Contains-permutation ys xs cell (IsPermutation-sym xs ys moved) parts.0) parts.1

  window_back : (w : Interval) → Contains (open_windows rules mark (filter p ys)) w → Contains (open_windows rules mark (filter p xs)) w
  window_back w at =
      let found = has_map (λ (cell : Cell). cell.span) (filter (is_open rules mark) (filter p ys)) w at in
      let parts = contains_filtered (is_open rules mark) (filter p ys) found.0 found.1 in
      let there = map_has (λ (cell : Cell). cell.span) (filter (is_open rules mark) (filter p xs)) found.0 (contains_filter (is_open rules mark) (filter p xs) found.0 (back found.0 parts.0) parts.1) in
      subst (Contains (open_windows rules mark (filter p xs))) found.2 there

  any_moved : (q : Cell → Bool) → list_any q (filter p ys) ≡ list_any q (filter p xs)
  any_moved q = any_filtered p q ys ∙ sym (list_any-IsPermutation (λ x. p x && q x) xs ys moved) ∙ sym (any_filtered p q xs)

  group_moved : IsSaneGroup rules mark (filter p xs) → IsSaneGroup rules mark (filter p ys)
  group_moved sane = record {
    once = λ w.
        omega (
          arith,
          sane.once w,
          count_filtered p (λ cell. same_span cell.span w) xs,
          count_filtered p (λ cell. same_span cell.span w) ys,
          sum_by-IsPermutation (λ (cell : Cell). cond {A = ℕ} (p cell && same_span cell.span w) 1 0) xs ys moved,
        );
    merged = all_of (HasTaker rules (filter p ys)) (filter p ys) (λ cell at. takes cell (All-contains (HasTaker rules (filter p xs)) (filter p xs) cell sane.merged (back cell at)));
    apart = λ merges.
        let windows = sane.apart merges in
        record {
          some = all_of IsNonEmpty (open_windows rules mark (filter p ys)) (λ w at. All-contains IsNonEmpty (open_windows rules mark (filter p xs)) w windows.some (window_back w at));
          each = λ a b first second. windows.each a b (window_back a first) (window_back b second);
        };
  }
    where
      takes : (cell : Cell) → HasTaker rules (filter p xs) cell → HasTaker rules (filter p ys) cell
      takes cell has = λ off. let m = has off in record { merges = m.merges; empty = m.empty; taker = any_moved (stands_round cell.span) ∙ m.taker }

pub groups_moved : (plan : Plan) (marks : List StageMarks) (xs ys : List Cell) → IsPermutation xs ys → AreSaneGroups plan marks xs → AreSaneGroups plan marks ys
groups_moved plan marks xs ys moved sane = record {
  each = λ node key group. group_moved (rules_of plan node) (marks_at marks node).mark_in (is_cell_at_key node key) xs ys moved (sane.each node key group);
}
