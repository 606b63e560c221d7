-- Sorted elements taken run by run: what is done is grouped, and what is left stands in cells above.
use Rattle.std.proofs.Common.{Some, ◌≡◌, ℕ, zero, suc, ◌+◌, ◌-◌, ◌<◌, ◌≤◌, ◌⊎◌, Bool, true, false, not, ◌==◌, List, [], ◌∷◌, ◌++◌, length, get_or, take, drop, map, refl, sym, ap, ◌∙◌, subst, append_assoc, take-append-drop, inl, inr, arith}
use Rattle.std.specs.declared.cmp.Ordering.{Ordering}
use Rattle.std.specs.declared.cmp.Ordering.TheVariants.{Less, Equal, Greater}
use Rattle.std.specs.Ordering.{is_lt, is_eq, is_gt, ordering_index}
use Rattle.std.specs.List.{All, count_by, prefix_len, slice_get}
use Rattle.std.specs.List.Sorted.{IsSorted}
use Rattle.std.specs.Cmp.{IsStrictWeakOrder}
use Rattle.std.proofs.lemmas.Cmp.{tied_itself, alike_right}
use Rattle.std.proofs.lemmas.Bool.{false≢true}
use Rattle.std.proofs.lemmas.List.{get_or-drop, get_or-map, get_or_read, length-take, length-drop, length-map}
use Rattle.std.proofs.lemmas.List.Elements.{All-nil, All-append, All-cons, All-drop, All-weaker}
use Rattle.std.proofs.lemmas.List.Sums.{prefix_len-le-length, prefix_len_stops, prefix_len-drop_no, prefix_len-drop_yes, prefix_len-drop_all}
use Rattle.std.proofs.lemmas.List.Sorted.{ranks_by, sorted_far}
use Rattle.std.proofs.lemmas.List.Kept.{IsSortedBy-push}
use Rattle.beam_values.specs.Orders.{value_cmp}
use Rattle.beam_values.specs.Elements.{element_cmp}
use Rattle.beam_values.specs.Grouping.{key_of, part_of, is_in_cell, pane_with, IsPlainPane, IsPlainGrouping}
use Rattle.beam_values.specs.declared.value.Value.{Value}
use Rattle.beam_values.specs.declared.element.Element.{Element}
use Rattle.beam_values.specs.Cells.{window_key_cmp, grouped_cmp}
use Rattle.beam_values.proofs.Counts.{count_none, run_passes, sorted_take, sorted_drop}
use Rattle.beam_values.proofs.GroupedCells.{cell_total, grouped_total, cell_tied, cell_apart, below_upto, cells_rise, parts_rise, not_above, pane_cell, panes_rise}
use Rattle.beam_values.proofs.Groupings.{grouping_append, grouping_one, seen_alike, pane_over, HasNoCellOfBoth}

-- each element is in a cell above that of the pane
abbrev pub IsBelow : List Element → Element → Type 0
IsBelow rest pane = All (λ e. window_key_cmp pane e ≡ Less) rest

pub record IsGrouped (sorted rest panes : List Element) : Type 0 where
  pub done : List Element
  pub whole : sorted ≡ done ++ rest
  pub grouped : IsPlainGrouping done panes
  pub ascending : IsSorted element_cmp panes
  pub below : All (IsBelow rest) panes
  pub left : IsSorted grouped_cmp rest

abbrev in_run : Element → Element → Bool
in_run first e = is_eq (window_key_cmp first e)

-- the elements at the front that are in the cell of the first one
abbrev pub run : Element → List Element → ℕ
run first rest = prefix_len (in_run first) rest

eq_is : (o : Ordering) → is_eq o ≡ true → o ≡ Equal
eq_is Less e = absurd (false≢true e)
eq_is Equal e = refl
eq_is Greater e = absurd (false≢true e)

eq_not : (o : Ordering) → is_eq o ≡ false → o ≡ Equal → ⊥
eq_not o e same = absurd (false≢true (sym e ∙ ap is_eq same))

grouped_order : IsStrictWeakOrder (λ x y. is_lt (grouped_cmp x y))
grouped_order = ranks_by grouped_total (λ (x : Element). x)

-- of two places in the order of grouping, the later one is in no cell below
far : (rest : List Element) → IsSorted grouped_cmp rest → (j k : ℕ) (d : Element) → j ≤ k → k < length rest
    → is_gt (window_key_cmp (get_or rest j d) (get_or rest k d)) ≡ false
far rest up j k d le within =
    cells_rise (get_or rest j d) (get_or rest k d) (sorted_far (λ x y. is_lt (grouped_cmp x y)) grouped_order rest up j k d le within)

pub run_some : (first : Element) (rest : List Element) → 0 < length rest → first ≡ get_or rest 0 first → 1 ≤ run first rest
run_some first rest some is = by_length (run first rest) refl
  where
    by_length : (n : ℕ) → run first rest ≡ n → 1 ≤ n
    by_length zero e =
        let stops = prefix_len_stops (in_run first) rest first (omega arith) in
        let none : in_run first first ≡ false =
        ap (in_run first) is ∙ ap (λ (k : ℕ). in_run first (get_or rest k first)) (sym e) ∙ stops in
        absurd (eq_not (window_key_cmp first first) none (tied_itself cell_total first))
    by_length (suc n) e = omega arith

pub run_within : (first : Element) (rest : List Element) → run first rest ≤ length rest
run_within first rest = prefix_len-le-length (in_run first) rest

told_apart : (o : Ordering) → not (ordering_index o == 1) ≡ true → is_eq o ≡ false
told_apart Less e = refl
told_apart Equal e = absurd (false≢true e)
told_apart Greater e = refl

told_same : (o : Ordering) → not (ordering_index o == 1) ≡ false → is_eq o ≡ true
told_same Less e = absurd (false≢true (sym e))
told_same Equal e = refl
told_same Greater e = absurd (false≢true (sym e))

-- a count of the run: it ends at the first element of another cell
pub run_ends : (first : Element) (elements : List Element) (i : ℕ) (e : Element) (o : Ordering) → i < length elements → e ≡ get_or elements i e
    → o ≡ window_key_cmp first e → true ≡ not (ordering_index o == 1) → i + run first (drop i elements) ≡ run first elements → i ≡ run first elements
run_ends first elements i e o within is order test so_far =
    let passed : in_run first (get_or elements i e) ≡ false =
    ap (in_run first) (sym is) ∙ ap is_eq (sym order) ∙ told_apart o (sym test) in
    omega (arith, prefix_len-drop_no (in_run first) elements i e within passed)

pub run_goes_on : (first : Element) (elements : List Element) (i : ℕ) (e : Element) (o : Ordering) → i < length elements → e ≡ get_or elements i e
    → o ≡ window_key_cmp first e → false ≡ not (ordering_index o == 1) → i + run first (drop i elements) ≡ run first elements
    → (i + 1) + run first (drop (i + 1) elements) ≡ run first elements
run_goes_on first elements i e o within is order test so_far =
    let passed : in_run first (get_or elements i e) ≡ true =
    ap (in_run first) (sym is) ∙ ap is_eq (sym order) ∙ told_same o (sym test) in
    omega (arith, prefix_len-drop_yes (in_run first) elements i e within passed)

pub run_is_all : (first : Element) (elements : List Element) (i : ℕ) → i ≤ length elements → length elements ≤ i
    → i + run first (drop i elements) ≡ run first elements → length elements ≡ run first elements
run_is_all first elements i le ge so_far = omega (arith, prefix_len-drop_all (in_run first) elements i ge)

run_same : (first : Element) (rest : List Element) → All (λ e. window_key_cmp first e ≡ Equal) (take (run first rest) rest)
run_same first rest =
    All-weaker (λ e. in_run first e ≡ true) (λ e. window_key_cmp first e ≡ Equal) (λ e h. eq_is (window_key_cmp first e) h) (take (run first rest) rest) (run_passes (in_run first) rest)

others_above : (first : Element) (rest : List Element) → IsSorted grouped_cmp rest → 0 < length rest → first ≡ get_or rest 0 first
    → IsBelow (drop (run first rest) rest) first
others_above first rest up some is k d within =
    let n = run first rest in
    let inside : n + k < length rest = omega (arith, length-drop n rest) in
    let head = get_or_read rest 0 first some is d in
    let upward : is_gt (window_key_cmp first (get_or rest n d)) ≡ false =
    ap (λ (x : Element). is_gt (window_key_cmp x (get_or rest n d))) head ∙ far rest up 0 n d (omega arith) (omega arith) in
    let other = eq_not (window_key_cmp first (get_or rest n d)) (prefix_len_stops (in_run first) rest d (omega arith)) in
    let next = not_above (window_key_cmp first (get_or rest n d)) upward other in
    ap (λ (x : Element). window_key_cmp first x) (get_or-drop n rest k d)
    ∙ below_upto first (get_or rest n d) (get_or rest (n + k) d) next (far rest up n (n + k) d (omega arith) inside)

parts_ascend : (first : Element) (group : List Element) → All (λ e. window_key_cmp first e ≡ Equal) group → IsSorted grouped_cmp group
    → IsSorted value_cmp (map part_of group)
parts_ascend first group same up k d z l =
    let within : k + 1 < length group = omega (arith, length-map group part_of) in
    let a = get_or group k first in
    let b = get_or group (k + 1) first in
    let tied : window_key_cmp a b ≡ Equal =
    sym (cell_total.congr first a b (same k first (omega arith))) ∙ same (k + 1) first within in
    ap (λ (x : Value). is_lt (value_cmp x (get_or (map part_of group) k d))) (get_or-map part_of group (k + 1) first d within)
    ∙ ap (λ (x : Value). is_lt (value_cmp (part_of b) x)) (get_or-map part_of group k first d (omega arith))
    ∙ parts_rise a b tied (up k first (omega arith) within)

-- the pane of a cell above that of a pane
pane_above : (xs : List Element) (p first : Element) (group : List Element) → IsPlainPane xs p → window_key_cmp p first ≡ Less
    → is_lt (element_cmp (pane_over first group) p) ≡ false
pane_above xs p first group h less =
    let q = pane_over first group in
    let as_built = pane_with (key_of p) p.span h.parts in
    let tied = cell_tied q first (pane_cell first (map part_of group)) in
    let below : window_key_cmp as_built q ≡ Less =
    ap (λ (x : Element). window_key_cmp x q) (sym h.holds) ∙ alike_right cell_total q first p tied ∙ less in
    ap (λ (x : Element). is_lt (element_cmp q x)) h.holds
    ∙ panes_rise (key_of p) (key_of first) p.span first.span h.parts (map part_of group) below

module _ (sorted rest panes : List Element) (first : Element) (some : 0 < length rest) (is : first ≡ get_or rest 0 first) (g : IsGrouped sorted rest panes) where
  below_first : (k : ℕ) (d : Element) → k < length panes → window_key_cmp (get_or panes k d) first ≡ Less
  below_first k d within = ap (λ (x : Element). window_key_cmp (get_or panes k d) x) is ∙ g.below k d within 0 first some

  apart : HasNoCellOfBoth g.done (take (run first rest) rest)
  apart key span = by_test (is_in_cell key span first) refl
    where
      by_test : (b : Bool) → is_in_cell key span first ≡ b
          → (count_by (is_in_cell key span) g.done ≡ 0) ⊎ (count_by (is_in_cell key span) (take (run first rest) rest) ≡ 0)
      by_test true e =
          let none =
          count_none (is_in_cell key span) panes (λ k d within. cell_apart key span (get_or panes k d) first (below_first k d within) e) in
          let once = g.grouped.once key span in
          inl (omega arith)
      by_test false e =
          inr (count_none (is_in_cell key span) (take (run first rest) rest) (seen_alike key span first (take (run first rest) rest) (run_same first rest) false e))

  -- the run at the front becomes a pane
  pub grouped_more : IsGrouped sorted (drop (run first rest) rest) (panes ++ pane_over first (take (run first rest) rest) ∷ [])
  grouped_more =
      let n = run first rest in
      let group = take (run first rest) rest in
      let others = drop (run first rest) rest in
      let pane = pane_over first (take (run first rest) rest) in
      let one =
      grouping_one first group (run_same first rest) (omega (arith, length-take n rest, run_some first rest some is))
      (parts_ascend first group (run_same first rest) (sorted_take (λ x y. is_lt (grouped_cmp x y)) n rest g.left)) in
      let tied = cell_tied pane first (pane_cell first (map part_of group)) in
      record {
        done = g.done ++ group;
        whole = g.whole ∙ ap (λ (l : List Element). g.done ++ l) (sym (take-append-drop n rest)) ∙ sym (append_assoc g.done group others);
        grouped = grouping_append g.done group panes (pane ∷ []) g.grouped one apart;
        ascending = IsSortedBy-push (λ x y. is_lt (element_cmp x y)) panes pane g.ascending (λ d have.
            pane_above g.done (get_or panes (length panes - 1) d) first group (g.grouped.each (length panes - 1) d (omega arith)) (below_first (length panes - 1) d (omega arith)));
        below = All-append (IsBelow others) panes (pane ∷ [])
            (All-weaker (IsBelow rest) (IsBelow others) (λ p h. All-drop (λ e. window_key_cmp p e ≡ Less) n rest h) panes g.below)
            (All-cons (IsBelow others) pane []
            (All-weaker (λ e. window_key_cmp first e ≡ Less) (λ e. window_key_cmp pane e ≡ Less) (λ e h. cell_total.congr pane first e tied ∙ h) others (others_above first rest g.left some is))
            (All-nil (IsBelow others)));
        left = sorted_drop (λ x y. is_lt (grouped_cmp x y)) n rest g.left;
      }

some_first : (rest : List Element) (first : Element) → Some first ≡ slice_get rest 0 → (0 < length rest) × (first ≡ get_or rest 0 first)
some_first [] first e = absurd cc
some_first (x ∷ rest) first e = (omega arith, cc)

-- a turn of the loop: the run at the front goes, and its pane comes
pub grouped_step : (sorted rest panes : List Element) (first : Element) (n : ℕ) (group others : List Element) (pane : Element) (more : List Element)
    → Some first ≡ slice_get rest 0 → n ≡ run first rest → group ≡ take n rest → others ≡ drop n rest → pane ≡ pane_over first group
    → more ≡ panes ++ pane ∷ [] → IsGrouped sorted rest panes → IsGrouped sorted others more
grouped_step sorted rest panes first n group others pane more has length_is front back made pushed g =
    let head = some_first rest first has in
    let left : others ≡ drop (run first rest) rest = back ∙ ap (λ (k : ℕ). drop k rest) length_is in
    let taken : group ≡ take (run first rest) rest = front ∙ ap (λ (k : ℕ). take k rest) length_is in
    let all : more ≡ panes ++ pane_over first (take (run first rest) rest) ∷ [] =
    pushed ∙ ap (λ (x : Element). panes ++ x ∷ []) (made ∙ ap (pane_over first) taken) in
    subst (λ (l : List Element). IsGrouped sorted l more) (sym left)
    (subst (λ (l : List Element). IsGrouped sorted (drop (run first rest) rest) l) (sym all) (grouped_more sorted rest panes first head.0 head.1 g))

pub shorter : (rest : List Element) (first : Element) (n : ℕ) (others : List Element) → Some first ≡ slice_get rest 0 → n ≡ run first rest
    → others ≡ drop n rest → length others < length rest
shorter rest first n others has length_is back =
    let head = some_first rest first has in
    let some = run_some first rest head.0 head.1 in
    let long : length others ≡ length rest - n = ap length back ∙ length-drop n rest in
    omega arith
