-- The panes of a side input: where both collections of it were grouped by their windows, the join of the panes joins each main element once.
use Rattle.std.proofs.Common.{◌≡◌, ℕ, suc, ◌+◌, ◌*◌, ◌≤◌, ℤ, pos, w64, FitsSigned, Bool, true, false, cond, ◌&&◌, eqb, List, [], ◌∷◌, ◌++◌, length, get_or, map, Option, Some, None, refl, sym, ap, ap₂, subst, ◌∙◌, arith}
use Rattle.std.specs.Prelude.{if◌then◌else◌, unwrap_or}
use Rattle.std.specs.Bool.{Decides}
use Rattle.std.specs.Int.{int_wrap}
use Rattle.std.specs.List.{All, AllByRecursion, count_by, filter, flat_map, list_all, sum_by}
use Rattle.std.specs.List.Sorted.{IsSorted}
use Rattle.std.specs.Option.{option_map, option_and_then}
use Rattle.std.specs.Ordering.{int_eq, is_lt, ordering_reverse}
use Rattle.std.specs.Str.{bytes_eq}
use Rattle.std.specs.declared.cmp.Ordering.{Ordering}
use Rattle.std.specs.declared.cmp.Ordering.TheVariants.{Less, Equal, Greater}
use Rattle.std.proofs.lemmas.Bool.{false≢true}
use Rattle.std.proofs.lemmas.Bool.Decides.{Decides-and, Decides-at, Decides-int_eq, Decides-like, same_from_decides}
use Rattle.std.proofs.lemmas.Int.{SFits-int_wrap, int_wrap_fits}
use Rattle.std.proofs.lemmas.List.Elements.{recursion_from_All}
use Rattle.std.proofs.lemmas.List.Folds.{list_all-map, sum_by-zero}
use Rattle.std.proofs.lemmas.List.Sorted.{ranks_by, sorted_far}
use Rattle.std.proofs.lemmas.List.Sums.{sum_by-append, sum_by-cons}
use Rattle.std.proofs.lemmas.Slice.Eq.{bytes_eq-Decides}
use Rattle.beam_values.specs.Bags.{IsSameBag}
use Rattle.beam_values.specs.Grouping.{IsPlainGrouping, IsPlainPane, is_in_cell, key_in, key_of, last_time, pane_with, part_in, part_of}
use Rattle.beam_values.specs.Intervals.{Interval}
use Rattle.beam_values.specs.Orders.{value_cmp}
use Rattle.beam_values.specs.Spans.{same_span}
use Rattle.beam_values.specs.Spelling.{spelling}
use Rattle.beam_values.specs.Storable.{IsStorable}
use Rattle.beam_values.specs.declared.element.Element.{Element}
use Rattle.beam_values.specs.declared.plan.Args.TheVariants.{Nothing}
use Rattle.beam_values.specs.declared.plan.FnKind.{FnKind}
use Rattle.beam_values.specs.declared.plan.FnKind.TheVariants.{JoinList, JoinLookup, JoinSingle}
use Rattle.beam_values.specs.declared.value.Value.{Value}
use Rattle.beam_values.specs.declared.value.Value.TheFolds.{fold-Value, fold-roll-Value}
use Rattle.beam_values.specs.declared.value.Value.TheOpen as layer
use Rattle.beam_values.specs.declared.value.Value.TheVariants.{Int, Pair, Seq, rolls-Null, rolls-Int, rolls-Blob, rolls-Pair, rolls-Seq}
use Rattle.beam_values.specs.declared.value.Value.TheViews.{out-roll-Value, roll-Value}
use Rattle.beam_values.proofs.Bags.{bag_cancel, bag_count, bag_flat_map, bag_sym, bag_trans, sum_by-filter, sum_by-flat_map, sum_by-map}
use Rattle.beam_values.proofs.Counts.{count_all, count_member, count_none}
use Rattle.beam_values.proofs.Induction.{value_ind}
use Rattle.beam_values.proofs.Lexicographic.{same_where_tied}
use Rattle.beam_values.proofs.Storable.{Blob-fits, Int-fits, Null-fits, Pair-fits, Seq-fits, fits-Int, fits-Pair, fits-Seq, values_same}
use Rattle.beam_model.specs.Functions.{all_there, ascending, emits, found_as, found_in, is_pair, is_side_part, is_tagged, joined_value, joined_values, joined_with, joins, main_values, only_one, side_parts, tagged_as, takes_views, value_tagged, valued, view_values}
use Rattle.beam_model.specs.Sides.{IsSidePlain, at_window_end, joined_element, values_of_window}
use Rattle.beam_model.specs.Values.{KeyedValue, as_pair, as_seq, int, is_null, is_null_layer, null, pair, seq}
use Rattle.beam_model.proofs.Ascending.{ascending_same, ascending_sorted, value_total}
use Rattle.side_inputs.specs.Nodes.{join_of}
use Rattle.side_inputs.specs.declared.nodes.ViewMode.{ViewMode}
use Rattle.side_inputs.specs.declared.nodes.ViewMode.TheVariants as modes
use Rattle.group_cells.proofs.WindowTests.{span_itself, span_sound}
use Rattle.ended_runs.proofs.Grouped.{sum_alike}
use Rattle.ended_runs.proofs.SideChains.{tagged}

-- ---- one bag: what each of some values has, each of the same values in another order has

pub all_alike : {X : Type 0} (p : X → Bool) (xs ys : List X) → IsSameBag xs ys → list_all p xs ≡ list_all p ys
all_alike {X} p xs ys same = sym (by_sum xs) ∙ ap (λ (n : ℕ). eqb n 0) (same.weighs (λ x. cond {A = ℕ} (p x) 0 1)) ∙ by_sum ys
  where
    by_test : (b : Bool) → eqb (cond {A = ℕ} b 0 1) 0 ≡ b
    by_test true = refl
    by_test false = refl

    by_sum : (zs : List X) → eqb (sum_by (λ x. cond {A = ℕ} (p x) 0 1) zs) 0 ≡ list_all p zs
    by_sum zs = sum_by-zero (λ x. cond {A = ℕ} (p x) 0 1) zs ∙ (λ i. list_all (λ x. by_test (p x) i) zs)

bag_length : (xs ys : List Value) → IsSameBag xs ys → length xs ≡ length ys
bag_length xs ys same = sym (ones xs) ∙ bag_count (λ v. true) xs ys same ∙ ones ys
  where
    ones : (vs : List Value) → count_by (λ v. true) vs ≡ length vs
    ones vs = count_all (λ v. true) vs (λ k d within. refl)

-- whether each whole number in a value has 64 bits
abbrev fits_step : layer.Value-F Bool → Bool
fits_step layer.Null = true
fits_step (layer.Int n) = int_eq (int_wrap w64 n) n
fits_step (layer.Blob bytes) = true
fits_step (layer.Pair key value) = key && value
fits_step (layer.Seq items) = list_all (λ b. b) items

abbrev fits : Value → Bool
fits = fold-Value Bool fits_step

number_decides : (n : ℤ) → Decides (int_eq (int_wrap w64 n) n) (IsStorable (Int n))
number_decides n =
    Decides-like (int_eq (int_wrap w64 n) n) (λ e. Int-fits n (subst (FitsSigned w64) e (SFits-int_wrap w64 n))) (λ h. int_wrap_fits w64 n (fits-Int n h))
    (Decides-int_eq (int_wrap w64 n) n)

items_decide : (items : List Value) → AllByRecursion (λ v. Decides (fits v) (IsStorable v)) items
    → Decides (list_all fits items) (AllByRecursion IsStorable items)
items_decide [] each = ((λ _. tt), (λ _. refl))
items_decide (v ∷ vs) each = Decides-and (fits v) (list_all fits vs) each.0 (items_decide vs each.1)

fits_decides : (v : Value) → Decides (fits v) (IsStorable v)
fits_decides =
    value_ind (λ v. Decides (fits v) (IsStorable v))
    ((λ _. Null-fits), (λ _. ap fits (sym rolls-Null) ∙ fold-roll-Value Bool fits_step layer.Null))
    (λ n. Decides-at (fits (Int n)) (int_eq (int_wrap w64 n) n) (ap fits (sym (rolls-Int n)) ∙ fold-roll-Value Bool fits_step (layer.Int n)) (number_decides n))
    (λ bytes. ((λ _. Blob-fits bytes), (λ _. ap fits (sym (rolls-Blob bytes)) ∙ fold-roll-Value Bool fits_step (layer.Blob bytes))))
    (λ key value k v. Decides-at (fits (Pair key value)) (fits key && fits value)
    (ap fits (sym (rolls-Pair key value)) ∙ fold-roll-Value Bool fits_step (layer.Pair key value))
    (Decides-like (fits key && fits value) (λ h. Pair-fits key value h.0 h.1) (λ h. fits-Pair key value h) (Decides-and (fits key) (fits value) k v)))
    (λ items h. Decides-at (fits (Seq items)) (list_all fits items)
    (ap fits (sym (rolls-Seq items)) ∙ fold-roll-Value Bool fits_step (layer.Seq items) ∙ list_all-map (λ b. b) fits items)
    (Decides-like (list_all fits items) (λ each. Seq-fits items each) (λ each. fits-Seq items each) (items_decide items h)))

all_fit : (vs : List Value) → Decides (list_all fits vs) (AllByRecursion IsStorable vs)
all_fit vs = items_decide vs (each vs)
  where
    each : (items : List Value) → AllByRecursion (λ v. Decides (fits v) (IsStorable v)) items
    each [] = tt
    each (v ∷ items) = (fits_decides v, each items)

pub storable_alike : (xs ys : List Value) → IsSameBag xs ys → AllByRecursion IsStorable xs → AllByRecursion IsStorable ys
storable_alike xs ys same each = (all_fit ys).0 (sym (all_alike fits xs ys same) ∙ (all_fit xs).1 each)

-- ---- ascending values of one bag are the same

tail_sorted : (v : Value) (vs : List Value) → IsSorted value_cmp (v ∷ vs) → IsSorted value_cmp vs
tail_sorted v vs up k d from within =
    let place : suc k + 1 ≡ suc (k + 1) = omega arith in
    subst (λ (j : ℕ). is_lt (value_cmp (get_or (v ∷ vs) j d) (get_or vs k d)) ≡ false) place (up (suc k) d (omega arith) (omega arith))

abbrev is_below : Value → Value → Bool
is_below y v = is_lt (value_cmp v y)

first_of_none : (p : Value → Bool) (v : Value) (vs : List Value) → count_by p (v ∷ vs) ≡ 0 → p v ≡ false
first_of_none p v vs none = by_test (p v) (sym (sum_by-cons (λ (w : Value). cond {A = ℕ} (p w) 1 0) v vs) ∙ none)
  where
    by_test : (b : Bool) → cond {A = ℕ} b 1 0 + count_by p vs ≡ 0 → b ≡ false
    by_test true e = absurd (omega arith)
    by_test false e = refl

-- nothing of a list is less than the first of the same values in order
not_less : (x y : Value) (xs ys : List Value) → IsSorted value_cmp (y ∷ ys) → IsSameBag (x ∷ xs) (y ∷ ys) → is_lt (value_cmp x y) ≡ false
not_less x y xs ys up same = first_of_none (is_below y) x xs (bag_count (is_below y) (x ∷ xs) (y ∷ ys) same ∙ count_none (is_below y) (y ∷ ys) least)
  where
    least : All (λ v. is_below y v ≡ false) (y ∷ ys)
    least k d within = sorted_far (λ a b. is_lt (value_cmp a b)) (ranks_by value_total (λ (v : Value). v)) (y ∷ ys) up 0 k d (omega arith) within

spelled_alike : (x y : Value) → is_lt (value_cmp x y) ≡ false → is_lt (value_cmp y x) ≡ false → spelling x ≡ spelling y
spelled_alike x y a b = by_order (value_cmp x y) refl a (sym (ap is_lt (value_total.antisymm y x)) ∙ b)
  where
    by_order : (o : Ordering) → value_cmp x y ≡ o → is_lt o ≡ false → is_lt (ordering_reverse o) ≡ false → spelling x ≡ spelling y
    by_order Less e p q = absurd cc
    by_order Equal e p q = same_where_tied (spelling x) (spelling y) e
    by_order Greater e p q = absurd cc

sorted_alike : (xs ys : List Value) → AllByRecursion IsStorable xs → AllByRecursion IsStorable ys → IsSorted value_cmp xs → IsSorted value_cmp ys
    → IsSameBag xs ys → xs ≡ ys
sorted_alike [] [] f g up rising same = refl
sorted_alike [] (y ∷ ys) f g up rising same = absurd (omega (arith, bag_length [] (y ∷ ys) same))
sorted_alike (x ∷ xs) [] f g up rising same = absurd (omega (arith, bag_length (x ∷ xs) [] same))
sorted_alike (x ∷ xs) (y ∷ ys) f g up rising same =
    let first : x ≡ y = values_same x y f.0 g.0 (spelled_alike x y (not_less x y xs ys rising same) (not_less y x ys xs up (bag_sym (x ∷ xs) (y ∷ ys) same))) in
    let rest : IsSameBag xs ys = bag_cancel (x ∷ []) xs ys (subst (λ (v : Value). IsSameBag (x ∷ xs) (v ∷ ys)) (sym first) same) in
    ap₂ (λ (v : Value) (vs : List Value). v ∷ vs) first (sorted_alike xs ys f.1 g.1 (tail_sorted x xs up) (tail_sorted y ys rising) rest)

-- the order in which values came is no matter once they are sorted
pub ascending_alike : (xs ys : List Value) → AllByRecursion IsStorable xs → IsSameBag xs ys → ascending xs ≡ ascending ys
ascending_alike xs ys each same =
    let front : IsSameBag (ascending xs) ys = bag_trans (ascending xs) xs ys (ascending_same xs) same in
    let whole = bag_trans (ascending xs) ys (ascending ys) front (bag_sym (ascending ys) ys (ascending_same ys)) in
    let mine = storable_alike xs (ascending xs) (bag_sym (ascending xs) xs (ascending_same xs)) each in
    sorted_alike (ascending xs) (ascending ys) mine (storable_alike (ascending xs) (ascending ys) whole mine) (ascending_sorted xs) (ascending_sorted ys) whole

-- ---- what a main value is joined with doesn't go by the order of the view

only_alike : (xs ys : List Value) → AllByRecursion IsStorable xs → IsSameBag xs ys → only_one xs ≡ only_one ys
only_alike [] [] each same = refl
only_alike (x ∷ []) (y ∷ []) each same = ap only_one (ascending_alike (x ∷ []) (y ∷ []) each same)
only_alike (x ∷ v ∷ xs) (y ∷ w ∷ ys) each same = refl
only_alike [] (y ∷ ys) each same = absurd (omega (arith, bag_length [] (y ∷ ys) same))
only_alike (x ∷ xs) [] each same = absurd (omega (arith, bag_length (x ∷ xs) [] same))
only_alike (x ∷ []) (y ∷ w ∷ ys) each same = absurd (omega (arith, bag_length (x ∷ []) (y ∷ w ∷ ys) same))
only_alike (x ∷ v ∷ xs) (y ∷ []) each same = absurd (omega (arith, bag_length (x ∷ v ∷ xs) (y ∷ []) same))

abbrev TakenFits : (KeyedValue → List Value) → Value → Type 0
TakenFits take v = AllByRecursion IsStorable (unwrap_or (option_map take (as_pair v)) [])

-- what is taken of the part of a pair fits where the pair does
taken_fits : (take : KeyedValue → List Value) → ((keyed : KeyedValue) → IsStorable keyed.part → AllByRecursion IsStorable (take keyed))
    → (v : Value) → IsStorable v → TakenFits take v
taken_fits take taken =
    value_ind (λ v. IsStorable v → TakenFits take v)
    (λ f. subst (TakenFits take) rolls-Null (simp out-roll-Value tt))
    (λ n f. subst (TakenFits take) (rolls-Int n) (simp out-roll-Value tt))
    (λ bytes f. subst (TakenFits take) (rolls-Blob bytes) (simp out-roll-Value tt))
    (λ key part _ _ f. subst (TakenFits take) (rolls-Pair key part) (simp out-roll-Value (taken (record { key = key; part = part }) (fits-Pair key part f).1)))
    (λ items _ f. subst (TakenFits take) (rolls-Seq items) (simp out-roll-Value tt))

all_taken_fit : (take : Value → List Value) → ((v : Value) → IsStorable v → AllByRecursion IsStorable (take v))
    → (vs : List Value) → AllByRecursion IsStorable vs → AllByRecursion IsStorable (flat_map take vs)
all_taken_fit take taken [] each = tt
all_taken_fit take taken (v ∷ vs) each = joined (take v) (taken v each.0) (all_taken_fit take taken vs each.1)
  where
    joined : (front : List Value) → AllByRecursion IsStorable front → AllByRecursion IsStorable (flat_map take vs)
        → AllByRecursion IsStorable (front ++ flat_map take vs)
    joined [] f g = g
    joined (w ∷ front) f g = (f.0, joined front f.1 g)

one_fits : (b : Bool) (v : Value) → IsStorable v → AllByRecursion IsStorable (if b then v ∷ [] else [])
one_fits true v f = (f, tt)
one_fits false v f = tt

found_fit : (key : Value) (views : List Value) → AllByRecursion IsStorable views → AllByRecursion IsStorable (flat_map (found_in key) views)
found_fit key =
    all_taken_fit (found_in key) (taken_fits (found_as key) (λ keyed f. one_fits (bytes_eq (spelling keyed.key) (spelling key)) keyed.part f))

views_fit : (parts : List Value) → AllByRecursion IsStorable parts → AllByRecursion IsStorable (view_values parts)
views_fit = all_taken_fit (value_tagged (pos 0)) (taken_fits (tagged_as (pos 0)) (λ keyed f. one_fits (is_tagged (pos 0) keyed.key) keyed.part f))

pub joined_alike : (work : FnKind) (xs ys : List Value) → AllByRecursion IsStorable xs → IsSameBag xs ys → (main : Value)
    → joined_value work xs main ≡ joined_value work ys main
joined_alike work xs ys each same main = ap (option_map (pair main)) (by_work work)
  where
    looked_up : (key : Value) → ascending (flat_map (found_in key) xs) ≡ ascending (flat_map (found_in key) ys)
    looked_up key = ascending_alike (flat_map (found_in key) xs) (flat_map (found_in key) ys) (found_fit key xs each) (bag_flat_map (found_in key) xs ys same)

    by_work : (work : FnKind) → joined_with work xs main ≡ joined_with work ys main
    by_work JoinList = ap (λ (vs : List Value). Some (seq vs)) (ascending_alike xs ys each same)
    by_work JoinSingle = only_alike xs ys each same
    by_work JoinLookup =
        λ i. if all_alike is_pair xs ys same i then option_map (λ (keyed : KeyedValue). seq (looked_up keyed.key i)) (as_pair main) else None
    by_work _ = refl

-- ---- sums

sum_zero : {X : Type 0} (f : X → ℕ) → ((x : X) → f x ≡ 0) → (xs : List X) → sum_by f xs ≡ 0
sum_zero f none [] = refl
sum_zero f none (x ∷ xs) = omega (arith, none x, sum_zero f none xs, sum_by-cons f x xs)

sum_both : {X : Type 0} (f g : X → ℕ) (xs : List X) → sum_by (λ x. f x + g x) xs ≡ sum_by f xs + sum_by g xs
sum_both f g [] = refl
sum_both f g (x ∷ xs) = omega (arith, sum_both f g xs, sum_by-cons (λ y. f y + g y) x xs, sum_by-cons f x xs, sum_by-cons g x xs)

-- sums of what weighs the same in each of these items
sum_where : {X : Type 0} (f g : X → ℕ) (xs : List X) → AllByRecursion (λ x. f x ≡ g x) xs → sum_by f xs ≡ sum_by g xs
sum_where f g [] same = refl
sum_where f g (x ∷ xs) same = omega (arith, sum_where f g xs same.1, same.0, sum_by-cons f x xs, sum_by-cons g x xs)

-- what passes weighs alike, and nothing else weighs
sum_passing : {X : Type 0} (p : X → Bool) (n : ℕ) (xs : List X) → sum_by (λ x. cond (p x) n 0) xs ≡ count_by p xs * n
sum_passing p n [] = omega arith
sum_passing {X} p n (x ∷ xs) =
    sum_by-cons (λ (y : X). cond (p y) n 0) x xs
    ∙ by_test (p x) (sum_passing p n xs)
    ∙ ap (λ (k : ℕ). k * n) (sym (sum_by-cons (λ (y : X). cond {A = ℕ} (p y) 1 0) x xs))
  where
    by_test : (b : Bool) → sum_by (λ y. cond (p y) n 0) xs ≡ count_by p xs * n → cond b n 0 + sum_by (λ y. cond (p y) n 0) xs ≡ (cond b 1 0 + count_by p xs) * n
    by_test true rest = grind arith
    by_test false rest = grind arith

-- each of some items meets one of others, and is weighed there
module _ {X Y : Type 0} (meets : X → Y → Bool) (w : X → ℕ) (ys : List Y) where
  sum_of_met : (xs : List X) → AllByRecursion (λ x. count_by (meets x) ys ≡ 1) xs
      → sum_by (λ y. sum_by (λ x. cond (meets x y) (w x) 0) xs) ys ≡ sum_by w xs
  sum_of_met [] each = sum_zero (λ (y : Y). 0) (λ y. refl) ys
  sum_of_met (x ∷ xs) each =
      let first : Y → ℕ = λ y. cond (meets x y) (w x) 0 in
      let later : Y → ℕ = λ y. sum_by (λ z. cond (meets z y) (w z) 0) xs in
      let one : count_by (meets x) ys * w x ≡ 1 * w x = ap (λ (k : ℕ). k * w x) each.0 in
      omega (
        arith,
        sum_alike (λ y. sum_by (λ z. cond (meets z y) (w z) 0) (x ∷ xs)) (λ y. first y + later y) (λ y. sum_by-cons (λ z. cond (meets z y) (w z) 0) x xs) ys,
        sum_both first later ys,
        sum_passing (meets x) (w x) ys,
        one,
        sum_of_met xs each.1,
        sum_by-cons w x xs,
      )

-- ---- windows

span_decides : (a b : Interval) → Decides (same_span a b) (a ≡ b)
span_decides a b = (span_sound a b, λ e. subst (λ (c : Interval). same_span a c ≡ true) e (span_itself a))

span_back : (a b : Interval) → same_span a b ≡ same_span b a
span_back a b = same_from_decides (same_span a b) (same_span b a) (span_decides a b) (Decides-like (same_span b a) sym sym (span_decides b a))

-- ---- what the tags do

key_tagged : (n : ℤ) (e : Element) → key_of (tagged n e) ≡ null
key_tagged n e = ap key_in (out-roll-Value (layer.Pair null (pair (int n) e.value)))

part_tagged : (n : ℤ) (e : Element) → part_of (tagged n e) ≡ pair (int n) e.value
part_tagged n e = ap (part_in (pair null (pair (int n) e.value))) (out-roll-Value (layer.Pair null (pair (int n) e.value)))

taken_by_tag : (mark n : ℤ) (v : Value) → value_tagged mark (pair (int n) v) ≡ (if int_eq mark n then v ∷ [] else [])
taken_by_tag mark n v = simp out-roll-Value refl

-- among elements of one key a cell is a window
in_cell : (key : Value) (span : Interval) (e : Element) → spelling (key_of e) ≡ spelling key → is_in_cell key span e ≡ same_span e.span span
in_cell key span e keyed =
    ap (λ (b : Bool). b && int_eq e.span.start span.start && int_eq e.span.end span.end) ((bytes_eq-Decides (spelling (key_of e)) (spelling key)).1 keyed)

tagged_in_cell : (key : Value) (span : Interval) (n : ℤ) (e : Element) → spelling key ≡ spelling null → is_in_cell key span (tagged n e) ≡ same_span e.span span
tagged_in_cell key span n e keyed = in_cell key span (tagged n e) (ap spelling (key_tagged n e) ∙ sym keyed)

-- ---- the parts of a pane of both collections

-- a weight of what has a window
abbrev weigh_in : Interval → (Element → ℕ) → Element → ℕ
weigh_in span w e = cond (same_span e.span span) (w e) 0

sum_of_window : (w : Value → ℕ) (span : Interval) (es : List Element) → sum_by w (values_of_window span es) ≡ sum_by (weigh_in span (λ e. w e.value)) es
sum_of_window w span es =
    sum_by-map w (λ (e : Element). e.value) (filter (λ e. same_span e.span span) es)
    ∙ sum_by-filter (λ (e : Element). w e.value) (λ e. same_span e.span span) es

-- what an element with one tag adds to the values with another
abbrev weigh_tag : (Value → ℕ) → ℤ → ℤ → Element → ℕ
weigh_tag w mark n e = sum_by w (if int_eq mark n then e.value ∷ [] else [])

module _ (elements mains views : List Element) (brought : IsSameBag elements (map (tagged (pos 1)) mains ++ map (tagged (pos 0)) views)) where
  -- a sum over all elements, by the collection that each came from
  sum_brought : (w : Element → ℕ) → sum_by w elements ≡ sum_by (λ e. w (tagged (pos 1) e)) mains + sum_by (λ e. w (tagged (pos 0) e)) views
  sum_brought w =
      omega (
        arith,
        brought.weighs w,
        sum_by-append w (map (tagged (pos 1)) mains) (map (tagged (pos 0)) views),
        sum_by-map w (tagged (pos 1)) mains,
        sum_by-map w (tagged (pos 0)) views,
      )

  module _ (key : Value) (span : Interval) (parts : List Value) (keyed : spelling key ≡ spelling null)
      (all : IsSameBag parts (map part_of (filter (is_in_cell key span) elements))) where
    one_by_tag : (w : Value → ℕ) (mark n : ℤ) (e : Element)
        → cond (is_in_cell key span (tagged n e)) (sum_by w (value_tagged mark (part_of (tagged n e)))) 0 ≡ weigh_in span (weigh_tag w mark n) e
    one_by_tag w mark n e =
        λ i. cond (tagged_in_cell key span n e keyed i) (sum_by w ((ap (value_tagged mark) (part_tagged n e) ∙ taken_by_tag mark n e.value) i)) 0

    sum_by_tag : (w : Value → ℕ) (mark : ℤ)
        → sum_by w (flat_map (value_tagged mark) parts)
        ≡ sum_by (weigh_in span (weigh_tag w mark (pos 1))) mains + sum_by (weigh_in span (weigh_tag w mark (pos 0))) views
    sum_by_tag w mark =
        let f : Element → ℕ = λ e. cond (is_in_cell key span e) (sum_by w (value_tagged mark (part_of e))) 0 in
        sum_by-flat_map w (value_tagged mark) parts
        ∙ all.weighs (λ part. sum_by w (value_tagged mark part))
        ∙ sum_by-map (λ part. sum_by w (value_tagged mark part)) part_of (filter (is_in_cell key span) elements)
        ∙ sum_by-filter (λ e. sum_by w (value_tagged mark (part_of e))) (is_in_cell key span) elements
        ∙ sum_brought f
        ∙ ap₂ (λ (m n : ℕ). m + n)
        (sum_alike (λ e. f (tagged (pos 1) e)) (weigh_in span (weigh_tag w mark (pos 1))) (one_by_tag w mark (pos 1)) mains)
        (sum_alike (λ e. f (tagged (pos 0) e)) (weigh_in span (weigh_tag w mark (pos 0))) (one_by_tag w mark (pos 0)) views)

    -- elements with the other tag add nothing, and those with the tag their value
    sum_of_other : (es : List Element) → sum_by (weigh_in span (λ e. 0)) es ≡ 0
    sum_of_other = sum_zero (weigh_in span (λ e. 0)) (λ e. either (same_span e.span span))
      where
        either : (b : Bool) → cond {A = ℕ} b 0 0 ≡ 0
        either true = refl
        either false = refl

    sum_of_own : (w : Value → ℕ) (es : List Element) → sum_by (weigh_in span (λ e. sum_by w (e.value ∷ []))) es ≡ sum_by w (values_of_window span es)
    sum_of_own w es =
        sum_alike (weigh_in span (λ e. sum_by w (e.value ∷ []))) (weigh_in span (λ e. w e.value))
        (λ e. ap (λ (n : ℕ). cond (same_span e.span span) n 0) (omega (arith, sum_by-cons w e.value []))) es
        ∙ sym (sum_of_window w span es)

    pub mains_of_pane : IsSameBag (main_values parts) (values_of_window span mains)
    mains_of_pane = record { weighs = λ w. omega (arith, sum_by_tag w (pos 1), sum_of_own w mains, sum_of_other views) }

    pub views_of_pane : IsSameBag (view_values parts) (values_of_window span views)
    views_of_pane = record { weighs = λ w. omega (arith, sum_by_tag w (pos 0), sum_of_other mains, sum_of_own w views) }

-- ---- what a join puts out of a pane that is no poison for it

-- the values that a join gives, each of its main value in turn
pub record IsJoined (work : FnKind) (pane : Element) (key : Value) (parts : List Value) : Type 0 where
  pub values : List Value
  pub keyed : is_null key ≡ true
  pub gives : joins work pane ≡ Some (map (valued pane) values)
  pub each : map Some values ≡ map (joined_value work (view_values parts)) (main_values parts)

all_there_is : (found : List (Option Value)) (values : List Value) → all_there found ≡ Some values → map Some values ≡ found
all_there_is [] values e =
    let none : values ≡ [] = cc in
    ap (map Some) none
all_there_is (None ∷ found) values e = absurd cc
all_there_is (Some v ∷ found) values e = by_rest (all_there found) refl e (all_there_is found)
  where
    by_rest : (rest : Option (List Value)) → all_there found ≡ rest → option_map (λ later. v ∷ later) rest ≡ Some values
        → ((later : List Value) → all_there found ≡ Some later → map Some later ≡ found) → map Some values ≡ Some v ∷ found
    by_rest None is e more = absurd cc
    by_rest (Some later) is e more =
        let whole : values ≡ v ∷ later = cc in
        ap (map Some) whole ∙ ap (λ (vs : List (Option Value)). Some v ∷ vs) (more later is)

values_given : (work : FnKind) (parts values : List Value) → joined_values work parts ≡ Some values
    → map Some values ≡ map (joined_value work (view_values parts)) (main_values parts)
values_given work parts values = by_test (list_all is_side_part parts && takes_views work (view_values parts))
  where
    by_test : (b : Bool) → (if b then all_there (map (joined_value work (view_values parts)) (main_values parts)) else None) ≡ Some values
        → map Some values ≡ map (joined_value work (view_values parts)) (main_values parts)
    by_test true e = all_there_is (map (joined_value work (view_values parts)) (main_values parts)) values e
    by_test false e = absurd cc

-- a join of a pair of a key and a sequence
joins_are : (work : FnKind) (pane : Element) (key : Value) (parts : List Value) → pane.value ≡ pair key (seq parts)
    → joins work pane ≡ option_map (map (valued pane)) (option_and_then (joined_values work) (if is_null key then Some parts else None))
joins_are work pane key parts is =
    let found : as_pair pane.value ≡ Some (record { key = key; part = seq parts }) = ap as_pair is ∙ pairs in
    ap (option_and_then (λ keyed. option_map (map (valued pane)) (option_and_then (joined_values work) (side_parts keyed)))) found
    ∙ ap (λ (items : Option (List Value)). option_map (map (valued pane)) (option_and_then (joined_values work) (if is_null key then items else None))) items
  where
    pairs : as_pair (pair key (seq parts)) ≡ Some (record { key = key; part = seq parts })
    pairs = simp out-roll-Value refl

    items : as_seq (seq parts) ≡ Some parts
    items = simp out-roll-Value refl

joined_pane : (work : FnKind) (pane : Element) (key : Value) (parts : List Value) → pane.value ≡ pair key (seq parts) → (joins work pane ≡ None → ⊥)
    → IsJoined work pane key parts
joined_pane work pane key parts is clean = by_key (is_null key) refl (joins_are work pane key parts is)
  where
    by_values : (found : Option (List Value)) → joined_values work parts ≡ found → is_null key ≡ true
        → joins work pane ≡ option_map (map (valued pane)) found
        → IsJoined work pane key parts
    by_values None given keyed gives = absurd (clean gives)
    by_values (Some values) given keyed gives = record { values = values; keyed = keyed; gives = gives; each = values_given work parts values given }

    by_key : (b : Bool) → is_null key ≡ b
        → joins work pane ≡ option_map (map (valued pane)) (option_and_then (joined_values work) (if b then Some parts else None))
        → IsJoined work pane key parts
    by_key true keyed gives = by_values (joined_values work parts) refl keyed gives
    by_key false keyed gives = absurd (clean gives)

null_only : (v : Value) → is_null v ≡ true → spelling v ≡ spelling null
null_only =
    value_ind (λ v. is_null v ≡ true → spelling v ≡ spelling null)
    (λ e. ap spelling (sym rolls-Null))
    (λ n e. absurd (false≢true (other (layer.Int n) refl ∙ ap is_null (rolls-Int n) ∙ e)))
    (λ bytes e. absurd (false≢true (other (layer.Blob bytes) refl ∙ ap is_null (rolls-Blob bytes) ∙ e)))
    (λ key part _ _ e. absurd (false≢true (other (layer.Pair key part) refl ∙ ap is_null (rolls-Pair key part) ∙ e)))
    (λ items _ e. absurd (false≢true (other (layer.Seq items) refl ∙ ap is_null (rolls-Seq items) ∙ e)))
  where
    other : (form : layer.Value-F Value) → is_null_layer form ≡ false → false ≡ is_null (roll-Value form)
    other form another = sym (ap is_null_layer (out-roll-Value form) ∙ another)

-- a value in the place of a pane's is at the end of the pane's window
valued_at_end : (pane : Element) (key : Value) (parts : List Value) → pane ≡ pane_with key pane.span parts → (v : Value)
    → valued pane v ≡ at_window_end pane.span v
valued_at_end pane key parts holds v =
    let time : pane.time ≡ last_time pane.span = ap (λ (e : Element). e.time) holds in
    let tag = ap (λ (e : Element). e.pane) holds in
    λ i. record { value = v; time = time i; span = pane.span; pane = tag i }

parts_fit : (pane : Element) (key : Value) (parts : List Value) → pane.value ≡ pair key (seq parts) → IsStorable pane.value → AllByRecursion IsStorable parts
parts_fit pane key parts is fit =
    let form : pane.value ≡ Pair key (Seq parts) = is ∙ rolls-Pair key (seq parts) ∙ ap (Pair key) (rolls-Seq parts) in
    fits-Seq parts (fits-Pair key (Seq parts) (subst IsStorable form fit)).1

-- ---- what the join of a pane weighs

emits_joins : (mode : ViewMode) (e : Element) → emits (join_of mode) Nothing e ≡ joins (join_of mode) e
emits_joins modes.List e = refl
emits_joins modes.Single e = refl
emits_joins modes.Lookup e = refl

module _ (elements mains views : List Element) (brought : IsSameBag elements (map (tagged (pos 1)) mains ++ map (tagged (pos 0)) views))
    (work : FnKind) (pane : Element) (plain : IsPlainPane elements pane) (fit : IsStorable pane.value) (clean : joins work pane ≡ None → ⊥) where
  holds_value : pane.value ≡ pair (key_of pane) (seq plain.parts)
  holds_value = ap (λ (e : Element). e.value) plain.holds

  joined : IsJoined work pane (key_of pane) plain.parts
  joined = joined_pane work pane (key_of pane) plain.parts holds_value clean

  keyed_null : spelling (key_of pane) ≡ spelling null
  keyed_null = null_only (key_of pane) joined.keyed

  -- the view that the pane has is that of its window
  view_seen : (v : Value) → joined_value work (view_values plain.parts) v ≡ joined_value work (values_of_window pane.span views) v
  view_seen =
      joined_alike work (view_values plain.parts) (values_of_window pane.span views)
      (views_fit plain.parts (parts_fit pane (key_of pane) plain.parts holds_value fit))
      (views_of_pane elements mains views brought (key_of pane) pane.span plain.parts keyed_null plain.all)

  module _ (f : Option Element → ℕ) where
    -- what a value weighs once it is joined in a window
    abbrev weigh_joined : Interval → Value → ℕ
    weigh_joined span v = f (option_map (at_window_end span) (joined_value work (values_of_window span views) v))

    own_window : (main : Element)
        → weigh_in pane.span (λ e. weigh_joined pane.span e.value) main ≡ weigh_in pane.span (λ e. f (joined_element work views e)) main
    own_window main = by_test (same_span main.span pane.span) (span_sound main.span pane.span)
      where
        by_test : (b : Bool) → (b ≡ true → main.span ≡ pane.span) → cond b (weigh_joined pane.span main.value) 0 ≡ cond b (f (joined_element work views main)) 0
        by_test true same = ap (λ (span : Interval). weigh_joined span main.value) (sym (same refl))
        by_test false same = refl

    weighs_pane : sum_by (λ e. f (Some e)) (unwrap_or (joins work pane) []) ≡ sum_by (weigh_in pane.span (λ e. f (joined_element work views e))) mains
    weighs_pane =
        let at_end : Option Value → ℕ = λ found. f (option_map (at_window_end pane.span) found) in
        ap (λ (gives : Option (List Element)). sum_by (λ e. f (Some e)) (unwrap_or gives [])) joined.gives
        ∙ sum_by-map (λ e. f (Some e)) (valued pane) joined.values
        ∙ sum_alike (λ v. f (Some (valued pane v))) (λ v. at_end (Some v))
        (λ v. ap (λ (e : Element). f (Some e)) (valued_at_end pane (key_of pane) plain.parts plain.holds v)) joined.values
        ∙ sym (sum_by-map at_end Some joined.values)
        ∙ ap (sum_by at_end) joined.each
        ∙ sum_by-map at_end (joined_value work (view_values plain.parts)) (main_values plain.parts)
        ∙ sum_alike (λ v. at_end (joined_value work (view_values plain.parts) v)) (weigh_joined pane.span)
        (λ v. ap at_end (view_seen v)) (main_values plain.parts)
        ∙ (mains_of_pane elements mains views brought (key_of pane) pane.span plain.parts keyed_null plain.all).weighs (weigh_joined pane.span)
        ∙ sum_of_window (weigh_joined pane.span) pane.span mains
        ∙ sum_alike (weigh_in pane.span (λ e. weigh_joined pane.span e.value)) (weigh_in pane.span (λ e. f (joined_element work views e))) own_window mains

-- ---- all panes

module _ (mode : ViewMode) (elements mains views panes : List Element)
    (brought : IsSameBag elements (map (tagged (pos 1)) mains ++ map (tagged (pos 0)) views)) (grouped : IsPlainGrouping elements panes)
    (storable : All (λ pane. IsStorable pane.value) panes) (clean : All (λ pane. emits (join_of mode) Nothing pane ≡ None → ⊥) panes) where
  joins_clean : (pane : Element) → (emits (join_of mode) Nothing pane ≡ None → ⊥) → joins (join_of mode) pane ≡ None → ⊥
  joins_clean pane not_poison none = not_poison (emits_joins mode pane ∙ none)

  all_keyed : All (λ pane. spelling (key_of pane) ≡ spelling null) panes
  all_keyed k d within =
      let pane = get_or panes k d in
      keyed_null elements mains views brought (join_of mode) pane (grouped.each k d within) (storable k d within) (joins_clean pane (clean k d within))

  all_weigh : (f : Option Element → ℕ)
      → All (λ pane. sum_by (λ e. f (Some e)) (unwrap_or (emits (join_of mode) Nothing pane) [])
      ≡ sum_by (weigh_in pane.span (λ main. f (joined_element (join_of mode) views main))) mains) panes
  all_weigh f k d within =
      let pane = get_or panes k d in
      ap (λ (gives : Option (List Element)). sum_by (λ e. f (Some e)) (unwrap_or gives [])) (emits_joins mode pane)
      ∙ weighs_pane elements mains views brought (join_of mode) pane (grouped.each k d within) (storable k d within) (joins_clean pane (clean k d within)) f

  -- the window of a main element has one pane
  one_pane : (main : Element) → 1 ≤ count_by (λ e. same_span e.span main.span) mains → count_by (λ pane. same_span main.span pane.span) panes ≡ 1
  one_pane main some =
      let test : Element → ℕ = λ e. cond (is_in_cell null main.span e) 1 0 in
      omega (
        arith,
        sum_where (λ (pane : Element). cond {A = ℕ} (same_span main.span pane.span) 1 0) test panes
            (recursion_from_All (λ (pane : Element). cond {A = ℕ} (same_span main.span pane.span) 1 0 ≡ test pane) panes
            (λ k d within. ap (λ (b : Bool). cond {A = ℕ} b 1 0)
            (span_back main.span (get_or panes k d).span ∙ sym (in_cell null main.span (get_or panes k d) (all_keyed k d within))))),
        grouped.once null main.span,
        sum_brought elements mains views brought test,
        sum_alike (λ e. test (tagged (pos 1) e)) (λ e. cond {A = ℕ} (same_span e.span main.span) 1 0)
            (λ e. ap (λ (b : Bool). cond {A = ℕ} b 1 0) (tagged_in_cell null main.span (pos 1) e refl)) mains,
        some,
      )

  each_has_one : AllByRecursion (λ main. count_by (λ pane. same_span main.span pane.span) panes ≡ 1) mains
  each_has_one =
      recursion_from_All (λ (main : Element). count_by (λ (pane : Element). same_span main.span pane.span) panes ≡ 1) mains
      (λ k d within. one_pane (get_or mains k d)
      (count_member (λ e. same_span e.span (get_or mains k d).span) mains k d within (span_itself (get_or mains k d).span)))

  -- the join of the panes gives each main element with the view of its window, if it can be joined, and nothing else
  pub side_joined : IsSidePlain (join_of mode) mains views (flat_map (λ pane. unwrap_or (emits (join_of mode) Nothing pane) []) panes)
  side_joined = record {
    weighs = λ f.
        let g : Element → ℕ = λ main. f (joined_element (join_of mode) views main) in
        let given : Element → List Element = λ pane. unwrap_or (emits (join_of mode) Nothing pane) [] in
        sum_by-map f Some (flat_map given panes)
        ∙ sum_by-flat_map (λ e. f (Some e)) given panes
        ∙ sum_where (λ pane. sum_by (λ e. f (Some e)) (given pane)) (λ pane. sum_by (weigh_in pane.span g) mains) panes
        (recursion_from_All (λ (pane : Element). sum_by (λ e. f (Some e)) (given pane) ≡ sum_by (weigh_in pane.span g) mains) panes (all_weigh f))
        ∙ sum_of_met (λ (main : Element) (pane : Element). same_span main.span pane.span) g panes mains each_has_one
        ∙ sym (sum_by-map f (joined_element (join_of mode) views) mains);
  }
