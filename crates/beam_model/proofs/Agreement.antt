-- Plain groupings of one bag are one bag.
use Rattle.std.proofs.Common.{◌≡◌, ℕ, suc, ◌+◌, Bool, true, false, cond, List, [], ◌∷◌, get_or, map, min, refl, sym, ap, subst, ◌∙◌, arith}
use Rattle.std.specs.declared.cmp.Ordering.{Ordering}
use Rattle.std.specs.declared.cmp.Ordering.TheVariants.{Less, Equal, Greater}
use Rattle.std.specs.Ordering.{is_lt, ordering_reverse}
use Rattle.std.specs.List.{All, AllByRecursion, count_by, filter}
use Rattle.std.specs.List.Sorted.{IsSorted}
use Rattle.std.proofs.lemmas.List.Elements.{recursion_from_All}
use Rattle.std.proofs.lemmas.List.Sorted.{ranks_by, sorted_far}
use Rattle.std.proofs.lemmas.List.Sums.{sum_by-cons}
use Rattle.beam_values.specs.Bags.{IsSameBag}
use Rattle.beam_values.specs.Grouping.{key_of, part_of, is_in_cell, pane_with, IsPlainPane, IsPlainGrouping}
use Rattle.beam_values.specs.Intervals.{Interval}
use Rattle.beam_values.specs.Orders.{value_cmp}
use Rattle.beam_values.specs.Spelling.{spelling}
use Rattle.beam_values.specs.Storable.{IsStorable}
use Rattle.beam_values.specs.declared.value.Value.{Value}
use Rattle.beam_values.specs.declared.value.Value.TheOpen as layer
use Rattle.beam_values.specs.declared.value.Value.TheVariants.{Pair, Seq, rolls-Pair, rolls-Seq}
use Rattle.beam_values.specs.declared.value.Value.TheViews.{roll-Value}
use Rattle.beam_values.specs.declared.element.Element.{Element}
use Rattle.beam_values.proofs.Bags.{bag_sym, bag_trans, bag_cancel, bag_map, bag_filter, bag_count}
use Rattle.beam_values.proofs.Lexicographic.{same_where_tied}
use Rattle.beam_values.proofs.Storable.{values_same, fits-Pair, fits-Seq}
use Rattle.beam_model.proofs.Lists.{sum_none}
use Rattle.beam_model.proofs.Matching.{matched}
use Rattle.beam_model.proofs.Ascending.{value_total}
use Rattle.beam_model.proofs.Groupings.{own_cell, in_own_cell, same_cell}

-- ---- ascending values of one bag are the same

tail_sorted : (v : Value) (vs : List Value) → IsSorted value_cmp (v ∷ vs) → IsSorted value_cmp vs
tail_sorted v vs up k d from within =
    let place : suc k + 1 ≡ suc (k + 1) = omega arith in
    subst (λ (j : ℕ). is_lt (value_cmp (get_or (v ∷ vs) j d) (get_or vs k d)) ≡ false) place (up (suc k) d (omega arith) (omega arith))

count_none : {X : Type 0} (p : X → Bool) (xs : List X) → All (λ x. p x ≡ false) xs → count_by p xs ≡ 0
count_none p xs h = sum_none (λ x. cond {A = ℕ} (p x) 1 0) xs (λ k d within. ap (λ (b : Bool). cond {A = ℕ} b 1 0) (h k d within))

first_of_none : {X : Type 0} (p : X → Bool) (x : X) (xs : List X) → count_by p (x ∷ xs) ≡ 0 → p x ≡ false
first_of_none p x xs none = by_test (p x) (sym (sum_by-cons (λ (y : _). cond {A = ℕ} (p y) 1 0) x xs) ∙ none)
  where
    by_test : (b : Bool) → cond {A = ℕ} b 1 0 + count_by p xs ≡ 0 → b ≡ false
    by_test true e = absurd (omega arith)
    by_test false e = refl

abbrev is_below : Value → Value → Bool
is_below y v = is_lt (value_cmp v y)

-- nothing of a list is less than the first of the same values in order
not_less : (x y : Value) (xs ys : List Value) → IsSorted value_cmp (y ∷ ys) → IsSameBag (x ∷ xs) (y ∷ ys) → is_lt (value_cmp x y) ≡ false
not_less x y xs ys up same =
    first_of_none (is_below y) x xs (bag_count (is_below y) (x ∷ xs) (y ∷ ys) same ∙ count_none (is_below y) (y ∷ ys) least)
  where
    least : All (λ v. is_below y v ≡ false) (y ∷ ys)
    least k d within = sorted_far (λ a b. is_lt (value_cmp a b)) (ranks_by value_total (λ (v : Value). v)) (y ∷ ys) up 0 k d (omega arith) within

tied_alike : (x y : Value) → is_lt (value_cmp x y) ≡ false → is_lt (value_cmp y x) ≡ false → spelling x ≡ spelling y
tied_alike x y a b = by_order (value_cmp x y) refl a (sym (ap is_lt (value_total.antisymm y x)) ∙ b)
  where
    by_order : (o : Ordering) → value_cmp x y ≡ o → is_lt o ≡ false → is_lt (ordering_reverse o) ≡ false → spelling x ≡ spelling y
    by_order Less e p q = absurd cc
    by_order Equal e p q = same_where_tied (spelling x) (spelling y) e
    by_order Greater e p q = absurd cc

same_ascending : (xs ys : List Value) → AllByRecursion IsStorable xs → AllByRecursion IsStorable ys → IsSorted value_cmp xs → IsSorted value_cmp ys
    → IsSameBag xs ys → xs ≡ ys
same_ascending [] [] f g up rising same = refl
same_ascending [] (y ∷ ys) f g up rising same = absurd (omega (arith, same.weighs (λ v. 1), sum_by-cons (λ (v : Value). 1) y ys))
same_ascending (x ∷ xs) [] f g up rising same = absurd (omega (arith, same.weighs (λ v. 1), sum_by-cons (λ (v : Value). 1) x xs))
same_ascending (x ∷ xs) (y ∷ ys) f g up rising same =
    let head : x ≡ y = values_same x y f.0 g.0 (tied_alike x y (not_less x y xs ys rising same) (not_less y x ys xs up (bag_sym (x ∷ xs) (y ∷ ys) same))) in
    let rest : IsSameBag xs ys = bag_cancel (x ∷ []) xs ys (subst (λ (v : Value). IsSameBag (x ∷ xs) (v ∷ ys)) (sym head) same) in
    ap (λ (vs : List Value). x ∷ vs) (same_ascending xs ys f.1 g.1 (tail_sorted x xs up) (tail_sorted y ys rising) rest) ∙ ap (λ (v : Value). v ∷ ys) head

-- ---- panes of one cell are the same

-- what a pane holds fits where the pane does
pub pane_fits : (pane : Element) (key : Value) (span : Interval) (parts : List Value) → pane ≡ pane_with key span parts → IsStorable pane.value
    → IsStorable key × AllByRecursion IsStorable parts
pane_fits pane key span parts is fits =
    let form : pane.value ≡ Pair key (Seq parts) = ap (λ (e : Element). e.value) is ∙ rolls-Pair key (roll-Value (layer.Seq parts)) ∙ ap (Pair key) (rolls-Seq parts) in
    let inner = fits-Pair key (Seq parts) (subst IsStorable form fits) in
    (inner.0, fits-Seq parts inner.1)

abbrev IsFitPane : List Element → Element → Type 0
IsFitPane elements pane = IsPlainPane elements pane × IsStorable pane.value

same_pane : (xs ys : List Element) → IsSameBag xs ys → (p q : Element) → IsFitPane xs p → IsFitPane ys q → own_cell p q ≡ true → p ≡ q
same_pane xs ys same p q h k inside =
    let cell = same_cell p q inside in
    let first = pane_fits p (key_of p) p.span h.0.parts h.0.holds h.1 in
    let second = pane_fits q (key_of q) q.span k.0.parts k.0.holds k.1 in
    let key : key_of p ≡ key_of q = values_same (key_of p) (key_of q) first.0 second.0 (sym cell.keys) in
    let span : p.span ≡ q.span = sym cell.spans in
    let test : is_in_cell (key_of p) p.span ≡ is_in_cell (key_of q) q.span = λ i. is_in_cell (key i) (span i) in
    let held : IsSameBag (map part_of (filter (own_cell p) xs)) (map part_of (filter (own_cell q) ys)) =
    subst (λ (cell : Element → Bool). IsSameBag (map part_of (filter (own_cell p) xs)) (map part_of (filter cell ys))) test
    (bag_map part_of (filter (own_cell p) xs) (filter (own_cell p) ys) (bag_filter (own_cell p) xs ys same)) in
    let bag : IsSameBag h.0.parts k.0.parts =
    bag_trans h.0.parts (map part_of (filter (own_cell p) xs)) k.0.parts h.0.all
    (bag_trans (map part_of (filter (own_cell p) xs)) (map part_of (filter (own_cell q) ys)) k.0.parts held (bag_sym k.0.parts (map part_of (filter (own_cell q) ys)) k.0.all)) in
    let parts : h.0.parts ≡ k.0.parts = same_ascending h.0.parts k.0.parts first.1 second.1 h.0.ascending k.0.ascending bag in
    let middle : pane_with (key_of p) p.span h.0.parts ≡ pane_with (key_of q) q.span k.0.parts = λ i. pane_with (key i) (span i) (parts i) in
    h.0.holds ∙ middle ∙ sym k.0.holds

pub groupings_agree : (xs ys ps qs : List Element) → IsSameBag xs ys → IsPlainGrouping xs ps → IsPlainGrouping ys qs
    → All (λ p. IsStorable p.value) ps → All (λ q. IsStorable q.value) qs → IsSameBag ps qs
groupings_agree xs ys ps qs same g h f k =
    matched own_cell in_own_cell (IsFitPane xs) (IsFitPane ys) (same_pane xs ys same) ps qs
    (recursion_from_All (IsFitPane xs) ps (λ i d within. (g.each i d within, f i d within)))
    (recursion_from_All (IsFitPane ys) qs (λ i d within. (h.each i d within, k i d within)))
    (λ t. g.once (key_of t) t.span ∙ ap (min 1) (bag_count (own_cell t) xs ys same) ∙ sym (h.once (key_of t) t.span))
