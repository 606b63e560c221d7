-- Plain groupings: of no elements, of one cell, of two lists that share no cell, and of the same bag.
use Rattle.std.proofs.Common.{◌≡◌, ◌⊎◌, ℕ, ◌<◌, ◌≤◌, Bool, true, false, cond, List, [], ◌∷◌, ◌++◌, length, get_or, map, min, refl, sym, ap, subst, ◌∙◌, append-nil, inl, inr, arith}
use Rattle.std.specs.declared.cmp.Ordering.TheVariants.{Equal}
use Rattle.std.specs.List.{All, count_by, filter}
use Rattle.std.specs.List.Sorted.{IsSorted, IsPermutation}
use Rattle.std.proofs.lemmas.List.Elements.{All-nil, All-cons, All-append, All-weaker, filter-append}
use Rattle.std.proofs.lemmas.List.Sums.{sum_by-append}
use Rattle.beam_values.specs.Intervals.{Interval}
use Rattle.beam_values.specs.Bags.{IsSameBag}
use Rattle.beam_values.specs.Orders.{value_cmp}
use Rattle.beam_values.specs.Grouping.{key_of, part_of, is_in_cell, pane_with, IsPlainPane, IsPlainGrouping}
use Rattle.beam_values.specs.declared.value.Value.{Value}
use Rattle.beam_values.specs.declared.element.Element.{Element}
use Rattle.beam_values.proofs.Bags.{bag_sym, bag_trans, bag_from_same, bag_from_permutation, bag_map, bag_filter, bag_count}
use Rattle.beam_values.specs.Cells.{window_key_cmp}
use Rattle.beam_values.proofs.Counts.{filter_all, filter_where_none, count_all, count_none, count_yes, count_no, count_member}
use Rattle.beam_values.proofs.GroupedCells.{same_cell, cell_seen, cell_itself, pane_key, pane_cell}

abbrev in_cell_of : Element → Element → Bool
in_cell_of pane = is_in_cell (key_of pane) pane.span

-- a pane is one of each list whose elements of its cell are one bag
pub pane_seen : (xs ys : List Element) (pane : Element) → IsSameBag (filter (in_cell_of pane) xs) (filter (in_cell_of pane) ys)
    → IsPlainPane xs pane → IsPlainPane ys pane
pane_seen xs ys pane same h = record {
  parts = h.parts;
  holds = h.holds;
  ascending = h.ascending;
  all = bag_trans h.parts (map part_of (filter (in_cell_of pane) xs)) (map part_of (filter (in_cell_of pane) ys)) h.all (bag_map part_of (filter (in_cell_of pane) xs) (filter (in_cell_of pane) ys) same);
}

-- plain grouping sees the bag of the elements alone
pub grouping_moved : (xs ys panes : List Element) → IsSameBag xs ys → IsPlainGrouping xs panes → IsPlainGrouping ys panes
grouping_moved xs ys panes same g = record {
  each = All-weaker (IsPlainPane xs) (IsPlainPane ys) (λ pane h. pane_seen xs ys pane (bag_filter (in_cell_of pane) xs ys same) h) panes g.each;
  once = λ key span. g.once key span ∙ ap (min 1) (bag_count (is_in_cell key span) xs ys same);
}

-- the same, of a list that was sorted
pub grouping_of_permutation : (elements before after sorted panes : List Element) → before ≡ elements → IsPermutation before after → sorted ≡ after
    → IsPlainGrouping sorted panes → IsPlainGrouping elements panes
grouping_of_permutation elements before after sorted panes is moved same g =
    subst (λ (l : List Element). IsPlainGrouping l panes) is
    (grouping_moved after before panes (bag_sym before after (bag_from_permutation before after moved)) (subst (λ (l : List Element). IsPlainGrouping l panes) same g))

pub grouping_none : IsPlainGrouping [] []
grouping_none = record { each = All-nil (IsPlainPane []); once = λ key span. refl }

-- no cell has elements of both lists
abbrev pub HasNoCellOfBoth : List Element → List Element → Type 0
HasNoCellOfBoth xs ys = (key : Value) (span : Interval) → (count_by (is_in_cell key span) xs ≡ 0) ⊎ (count_by (is_in_cell key span) ys ≡ 0)

-- a pane's cell has elements
inhabited : (xs panes : List Element) → IsPlainGrouping xs panes → (k : ℕ) (d : Element) → k < length panes
    → 1 ≤ count_by (in_cell_of (get_or panes k d)) xs
inhabited xs panes g k d within =
    let pane = get_or panes k d in
    let here = count_member (in_cell_of pane) panes k d within (cell_itself pane) in
    let once = g.once (key_of pane) pane.span in
    omega arith

pub grouping_append : (xs ys ps qs : List Element) → IsPlainGrouping xs ps → IsPlainGrouping ys qs → HasNoCellOfBoth xs ys
    → IsPlainGrouping (xs ++ ys) (ps ++ qs)
grouping_append xs ys ps qs g h apart = record {
  each = All-append (IsPlainPane (xs ++ ys)) ps qs front back;
  once = λ key span. joined (is_in_cell key span) (g.once key span) (h.once key span) (apart key span);
}
  where
    joined : (p : Element → Bool) → count_by p ps ≡ min 1 (count_by p xs) → count_by p qs ≡ min 1 (count_by p ys)
        → (count_by p xs ≡ 0) ⊎ (count_by p ys ≡ 0) → count_by p (ps ++ qs) ≡ min 1 (count_by p (xs ++ ys))
    joined p a b (inl e) = omega (arith, sum_by-append (λ (x : Element). cond (p x) 1 0) ps qs, sum_by-append (λ (x : Element). cond (p x) 1 0) xs ys)
    joined p a b (inr e) = omega (arith, sum_by-append (λ (x : Element). cond (p x) 1 0) ps qs, sum_by-append (λ (x : Element). cond (p x) 1 0) xs ys)

    only_first : (p : Element → Bool) → 1 ≤ count_by p xs → (count_by p xs ≡ 0) ⊎ (count_by p ys ≡ 0) → filter p xs ≡ filter p (xs ++ ys)
    only_first p a (inl e) = absurd (omega arith)
    only_first p a (inr e) = sym (filter-append p xs ys ∙ ap (λ l. filter p xs ++ l) (filter_where_none p ys e) ∙ append-nil (filter p xs))

    only_second : (p : Element → Bool) → 1 ≤ count_by p ys → (count_by p xs ≡ 0) ⊎ (count_by p ys ≡ 0) → filter p ys ≡ filter p (xs ++ ys)
    only_second p a (inl e) = sym (filter-append p xs ys ∙ ap (λ l. l ++ filter p ys) (filter_where_none p xs e))
    only_second p a (inr e) = absurd (omega arith)

    front : All (IsPlainPane (xs ++ ys)) ps
    front k d within =
        let pane = get_or ps k d in
        pane_seen xs (xs ++ ys) pane (bag_from_same (filter (in_cell_of pane) xs) (filter (in_cell_of pane) (xs ++ ys)) (only_first (in_cell_of pane) (inhabited xs ps g k d within) (apart (key_of pane) pane.span))) (g.each k d within)

    back : All (IsPlainPane (xs ++ ys)) qs
    back k d within =
        let pane = get_or qs k d in
        pane_seen ys (xs ++ ys) pane (bag_from_same (filter (in_cell_of pane) ys) (filter (in_cell_of pane) (xs ++ ys)) (only_second (in_cell_of pane) (inhabited ys qs h k d within) (apart (key_of pane) pane.span))) (h.each k d within)

-- the pane of elements that are all in the cell of one of them
abbrev pub pane_over : Element → List Element → Element
pane_over first group = pane_with (key_of first) first.span (map part_of group)

pub seen_alike : (key : Value) (span : Interval) (first : Element) (group : List Element) → All (λ e. window_key_cmp first e ≡ Equal) group
    → (b : Bool) → is_in_cell key span first ≡ b → All (λ e. is_in_cell key span e ≡ b) group
seen_alike key span first group same b h k d within =
    sym (cell_seen key span first (get_or group k d) (same_cell first (get_or group k d) (same k d within))) ∙ h

pub grouping_one : (first : Element) (group : List Element) → All (λ e. window_key_cmp first e ≡ Equal) group → 1 ≤ length group
    → IsSorted value_cmp (map part_of group) → IsPlainGrouping group (pane_over first group ∷ [])
grouping_one first group same some up = record {
  each = All-cons (IsPlainPane group) pane [] (record {
    parts = map part_of group;
    holds = ap (λ (k : Value). pane_with k first.span (map part_of group)) (sym (pane_key (key_of first) first.span (map part_of group)));
    ascending = up;
    all = bag_from_same (map part_of group) (map part_of (filter (in_cell_of pane) group)) (ap (map part_of) (sym (filter_all (in_cell_of pane) group inside)));
  }) (All-nil (IsPlainPane group));
  once = λ key span. by_test key span (is_in_cell key span first) refl;
}
  where
    pane : Element
    pane = pane_over first group

    inside : All (λ e. in_cell_of pane e ≡ true) group
    inside =
        seen_alike (key_of pane) pane.span first group same true
        (sym (cell_seen (key_of pane) pane.span pane first (pane_cell first (map part_of group))) ∙ cell_itself pane)

    by_test : (key : Value) (span : Interval) (b : Bool) → is_in_cell key span first ≡ b
        → count_by (is_in_cell key span) (pane ∷ []) ≡ min 1 (count_by (is_in_cell key span) group)
    by_test key span true e =
        let one = count_yes (is_in_cell key span) pane (cell_seen key span pane first (pane_cell first (map part_of group)) ∙ e) in
        let all = count_all (is_in_cell key span) group (seen_alike key span first group same true e) in
        omega arith
    by_test key span false e =
        let one = count_no (is_in_cell key span) pane (cell_seen key span pane first (pane_cell first (map part_of group)) ∙ e) in
        let none = count_none (is_in_cell key span) group (seen_alike key span first group same false e) in
        omega arith
