-- Cells: the order of elements by window and key, and the test of a cell.
use Rattle.std.proofs.Common.{◌≡◌, ℕ, ℤ, Bool, true, false, List, ◌∷◌, ◌++◌, ◌&&◌, refl, sym, ap, ◌∙◌}
use Rattle.std.specs.declared.cmp.Ordering.{Ordering}
use Rattle.std.specs.declared.cmp.Ordering.TheVariants.{Less, Equal, Greater}
use Rattle.std.specs.Ordering.{int_cmp, int_eq, ordering_then, ordering_reverse, is_lt, is_gt}
use Rattle.std.specs.Cmp.{IsTotalOrder}
use Rattle.std.specs.Str.{bytes_eq}
use Rattle.std.proofs.lemmas.Bool.{false≢true}
use Rattle.std.proofs.lemmas.Bool.Decides.{Decides-int_eq}
use Rattle.std.proofs.lemmas.Slice.Eq.{bytes_eq-Decides}
use Rattle.std.proofs.lemmas.Cmp.{int_cmp_total, nat_list_cmp_total, on_total, then_total, int_ranked, tied_back, tied_itself, alike_right}
use Rattle.beam_values.specs.Intervals.{Interval}
use Rattle.beam_values.specs.Spelling.{spelling}
use Rattle.beam_values.specs.Orders.{bytes_cmp, value_cmp}
use Rattle.beam_values.specs.Elements.{element_cmp}
use Rattle.beam_values.specs.Grouping.{key_in, key_of, part_of, is_in_cell, last_time, pane_with}
use Rattle.beam_values.specs.declared.value.Value.{Value}
use Rattle.beam_values.specs.declared.value.Value.TheOpen as layer
use Rattle.beam_values.specs.declared.value.Value.TheVariants.{Pair, Seq, rolls-Pair, rolls-Seq}
use Rattle.beam_values.specs.declared.value.Value.TheViews.{roll-Value, out-roll-Value}
use Rattle.beam_values.specs.declared.element.Element.{Element}
use Rattle.beam_values.specs.declared.element.Timing.TheVariants.{OnTime}
use Rattle.beam_values.proofs.Lexicographic.{same_where_tied, same_head}
use Rattle.beam_values.proofs.Induction.{spelling-Pair}
use Rattle.beam_values.proofs.Spellings.{values_decide}
use Rattle.beam_values.specs.Cells.{span_cmp, window_key_cmp, grouped_cmp}

pub span_total : IsTotalOrder span_cmp
span_total = then_total (on_total (λ (s : Interval). s.start) int_cmp_total) (on_total (λ (s : Interval). s.end) int_cmp_total)

pub cell_total : IsTotalOrder window_key_cmp
cell_total = then_total (on_total (λ (e : Element). e.span) span_total) (on_total (λ (e : Element). spelling (key_of e)) nat_list_cmp_total)

pub grouped_total : IsTotalOrder grouped_cmp
grouped_total = then_total cell_total (on_total (λ (e : Element). spelling (part_of e)) nat_list_cmp_total)

-- two elements of one window whose keys are spelled alike
pub record IsSameCell (a b : Element) : Type 0 where
  pub starts : a.span.start ≡ b.span.start
  pub ends : a.span.end ≡ b.span.end
  pub keys : spelling (key_of a) ≡ spelling (key_of b)

then_equal : (o p : Ordering) → ordering_then o p ≡ Equal → (o ≡ Equal) × (p ≡ Equal)
then_equal Less p e = absurd cc
then_equal Equal p e = (refl, e)
then_equal Greater p e = absurd cc

int_same : (x y : ℤ) → int_cmp x y ≡ Equal → x ≡ y
int_same x y e = int_ranked x y Equal (sym e)

pub same_cell : (a b : Element) → window_key_cmp a b ≡ Equal → IsSameCell a b
same_cell a b e =
    let outer = then_equal (span_cmp a.span b.span) (value_cmp (key_of a) (key_of b)) e in
    let inner = then_equal (int_cmp a.span.start b.span.start) (int_cmp a.span.end b.span.end) outer.0 in
    record {
      starts = int_same a.span.start b.span.start inner.0;
      ends = int_same a.span.end b.span.end inner.1;
      keys = same_where_tied (spelling (key_of a)) (spelling (key_of b)) outer.1;
    }

-- the order of the cells by their parts
abbrev parts_cmp : ℤ → ℤ → List ℕ → Element → Ordering
parts_cmp start end key b = ordering_then (ordering_then (int_cmp start b.span.start) (int_cmp end b.span.end)) (bytes_cmp key (spelling (key_of b)))

pub cell_tied : (a b : Element) → IsSameCell a b → window_key_cmp a b ≡ Equal
cell_tied a b s =
    ap (λ (x : ℤ). parts_cmp x a.span.end (spelling (key_of a)) b) s.starts
    ∙ ap (λ (x : ℤ). parts_cmp b.span.start x (spelling (key_of a)) b) s.ends
    ∙ ap (λ (x : List ℕ). parts_cmp b.span.start b.span.end x b) s.keys
    ∙ tied_itself cell_total b

abbrev has_parts : Value → Interval → List ℕ → ℤ → ℤ → Bool
has_parts key span spelled start end = bytes_eq spelled (spelling key) && int_eq start span.start && int_eq end span.end

pub cell_seen : (key : Value) (span : Interval) (a b : Element) → IsSameCell a b → is_in_cell key span a ≡ is_in_cell key span b
cell_seen key span a b s =
    ap (λ (x : List ℕ). has_parts key span x a.span.start a.span.end) s.keys
    ∙ ap (λ (x : ℤ). has_parts key span (spelling (key_of b)) x a.span.end) s.starts
    ∙ ap (λ (x : ℤ). has_parts key span (spelling (key_of b)) b.span.start x) s.ends

and_true : (a b : Bool) → a && b ≡ true → (a ≡ true) × (b ≡ true)
and_true true b e = (refl, e)
and_true false b e = absurd (false≢true e)

all_true : (a b c : Bool) → a ≡ true → b ≡ true → c ≡ true → a && b && c ≡ true
all_true a b c p q r = ap (λ (x : Bool). x && b && c) p ∙ ap (λ (x : Bool). true && x && c) q ∙ r

three_true : (a b c : Bool) → a && b && c ≡ true → (a ≡ true) × (b ≡ true) × (c ≡ true)
three_true true true c e = (refl, refl, e)
three_true true false c e = absurd (false≢true e)
three_true false b c e = absurd (false≢true e)

pub cell_itself : (a : Element) → is_in_cell (key_of a) a.span a ≡ true
cell_itself a =
    all_true _ _ _
    ((bytes_eq-Decides (spelling (key_of a)) (spelling (key_of a))).1 refl)
    ((Decides-int_eq a.span.start a.span.start).1 refl)
    ((Decides-int_eq a.span.end a.span.end).1 refl)

pub both_in : (key : Value) (span : Interval) (a b : Element) → is_in_cell key span a ≡ true → is_in_cell key span b ≡ true → IsSameCell a b
both_in key span a b p q =
    let x = three_true (bytes_eq (spelling (key_of a)) (spelling key)) (int_eq a.span.start span.start) (int_eq a.span.end span.end) p in
    let y = three_true (bytes_eq (spelling (key_of b)) (spelling key)) (int_eq b.span.start span.start) (int_eq b.span.end span.end) q in
    record {
      starts = (Decides-int_eq a.span.start span.start).0 x.1 ∙ sym ((Decides-int_eq b.span.start span.start).0 y.1);
      ends = (Decides-int_eq a.span.end span.end).0 x.2 ∙ sym ((Decides-int_eq b.span.end span.end).0 y.2);
      keys = (bytes_eq-Decides (spelling (key_of a)) (spelling key)).0 x.0 ∙ sym ((bytes_eq-Decides (spelling (key_of b)) (spelling key)).0 y.0);
    }

-- what stands in a cell below has no place in another one
pub cell_apart : (key : Value) (span : Interval) (a b : Element) → window_key_cmp a b ≡ Less → is_in_cell key span b ≡ true → is_in_cell key span a ≡ false
cell_apart key span a b less inside = by_test (is_in_cell key span a) refl
  where
    by_test : (t : Bool) → is_in_cell key span a ≡ t → t ≡ false
    by_test false e = refl
    by_test true e =
        let tied = cell_tied a b (both_in key span a b e inside) in
        absurd cc

pub below_upto : (a b c : Element) → window_key_cmp a b ≡ Less → is_gt (window_key_cmp b c) ≡ false → window_key_cmp a c ≡ Less
below_upto a b c less upto = by_order (window_key_cmp b c) refl upto
  where
    by_order : (o : Ordering) → window_key_cmp b c ≡ o → is_gt o ≡ false → window_key_cmp a c ≡ Less
    by_order Less e h = cell_total.trans a b c less e
    by_order Equal e h = sym (alike_right cell_total b c a e) ∙ less
    by_order Greater e h = absurd (false≢true (sym h))

-- what stands before another element in the order of grouping has no cell above
pub cells_rise : (a b : Element) → is_lt (grouped_cmp b a) ≡ false → is_gt (window_key_cmp a b) ≡ false
cells_rise a b h = by_order (window_key_cmp b a) refl h
  where
    by_order : (o : Ordering) → window_key_cmp b a ≡ o → is_lt (ordering_then o (value_cmp (part_of b) (part_of a))) ≡ false → is_gt (window_key_cmp a b) ≡ false
    by_order Less e k = absurd (false≢true (sym k))
    by_order Equal e k = ap is_gt (cell_total.antisymm a b ∙ ap ordering_reverse e)
    by_order Greater e k = ap is_gt (cell_total.antisymm a b ∙ ap ordering_reverse e)

pub parts_rise : (a b : Element) → window_key_cmp a b ≡ Equal → is_lt (grouped_cmp b a) ≡ false → is_lt (value_cmp (part_of b) (part_of a)) ≡ false
parts_rise a b e h =
    sym (ap (λ (o : Ordering). is_lt (ordering_then o (value_cmp (part_of b) (part_of a)))) (tied_back cell_total a b e)) ∙ h

pub not_above : (o : Ordering) → is_gt o ≡ false → (o ≡ Equal → ⊥) → o ≡ Less
not_above Less h k = refl
not_above Equal h k = absurd (k refl)
not_above Greater h k = absurd (false≢true (sym h))

pub pane_key : (key : Value) (span : Interval) (parts : List Value) → key_of (pane_with key span parts) ≡ key
pane_key key span parts = ap key_in (out-roll-Value (layer.Pair key (roll-Value (layer.Seq parts))))

pub pane_cell : (a : Element) (parts : List Value) → IsSameCell (pane_with (key_of a) a.span parts) a
pane_cell a parts = record { starts = refl; ends = refl; keys = ap spelling (pane_key (key_of a) a.span parts) }

-- the values of two panes: the keys decide where they are spelled apart
pane_values : (k l : Value) (v w : Value) → value_cmp k l ≡ Greater → value_cmp (roll-Value (layer.Pair k v)) (roll-Value (layer.Pair l w)) ≡ Greater
pane_values k l v w e =
    ap (λ (x : Value). value_cmp x (roll-Value (layer.Pair l w))) (rolls-Pair k v)
    ∙ ap (λ (x : Value). value_cmp (Pair k v) x) (rolls-Pair l w)
    ∙ ap (λ (x : List ℕ). bytes_cmp x (spelling (Pair l w))) (spelling-Pair k v)
    ∙ ap (λ (x : List ℕ). bytes_cmp (3 ∷ (spelling k ++ spelling v)) x) (spelling-Pair l w)
    ∙ same_head 3 (spelling k ++ spelling v) (spelling l ++ spelling w)
    ∙ (values_decide k l).joined (spelling v) (spelling w)
    ∙ ap (λ (o : Ordering). ordering_then o (bytes_cmp (spelling v) (spelling w))) e

then_assoc : (a b c : Ordering) → ordering_then (ordering_then a b) c ≡ ordering_then a (ordering_then b c)
then_assoc Less b c = refl
then_assoc Equal b c = refl
then_assoc Greater b c = refl

above_by : (starts ends keys times values : Ordering) → ordering_then starts (ordering_then ends keys) ≡ Greater
    → (starts ≡ Equal → ends ≡ Equal → times ≡ Equal) → (keys ≡ Greater → values ≡ Greater)
    → is_lt (ordering_then (ordering_then starts (ordering_then ends times)) values) ≡ false
above_by Less ends keys times values e same decide = absurd cc
above_by Greater ends keys times values e same decide = refl
above_by Equal Less keys times values e same decide = absurd cc
above_by Equal Greater keys times values e same decide = refl
above_by Equal Equal keys times values e same decide =
    ap (λ (o : Ordering). is_lt (ordering_then o values)) (same refl refl) ∙ ap is_lt (decide e)

-- a pane is not below one of a lower cell
pub panes_rise : (k l : Value) (s t : Interval) (ps qs : List Value) → window_key_cmp (pane_with k s ps) (pane_with l t qs) ≡ Less
    → is_lt (element_cmp (pane_with l t qs) (pane_with k s ps)) ≡ false
panes_rise k l s t ps qs less =
    let p = pane_with k s ps in
    let q = pane_with l t qs in
    let above : window_key_cmp q p ≡ Greater = cell_total.antisymm q p ∙ ap ordering_reverse less in
    let keys : value_cmp (key_of q) (key_of p) ≡ value_cmp l k =
    ap (λ (x : Value). value_cmp x (key_of p)) (pane_key l t qs) ∙ ap (λ (x : Value). value_cmp l x) (pane_key k s ps) in
    above_by (int_cmp t.start s.start) (int_cmp t.end s.end) (value_cmp l k) (int_cmp (last_time t) (last_time s))
    (value_cmp q.value p.value)
    (sym (then_assoc (int_cmp t.start s.start) (int_cmp t.end s.end) (value_cmp l k))
    ∙ ap (λ (o : Ordering). ordering_then (span_cmp t s) o) (sym keys) ∙ above)
    (λ a b. times (int_same t.start s.start a) (int_same t.end s.end b))
    (pane_values l k (roll-Value (layer.Seq qs)) (roll-Value (layer.Seq ps)))
  where
    times : t.start ≡ s.start → t.end ≡ s.end → int_cmp (last_time t) (last_time s) ≡ Equal
    times a b =
        ap (λ (x : ℤ). int_cmp (last_time (record { start = s.start; end = x })) (last_time s)) b
        ∙ tied_itself int_cmp_total (last_time s)

abbrev as_pane : Interval → Value → ℤ → Element
as_pane span value time = record { value = value; time = time; span = span; pane = record { timing = OnTime; index = 0 } }

-- a pane that is built of its parts
pub pane_built : (key : Value) (span : Interval) (parts : List Value) (k p : Value) (t : ℤ) → k ≡ key → p ≡ Seq parts → t ≡ last_time span
    → record { value = Pair k p; time = t; span = span; pane = record { timing = OnTime; index = 0 } } ≡ pane_with key span parts
pane_built key span parts k p t a b c =
    ap (λ (x : Value). as_pane span (Pair x p) t) a
    ∙ ap (λ (x : Value). as_pane span (Pair key x) t) (b ∙ sym (rolls-Seq parts))
    ∙ ap (λ (x : ℤ). as_pane span (Pair key (roll-Value (layer.Seq parts))) x) c
    ∙ ap (λ (x : Value). as_pane span x (last_time span)) (sym (rolls-Pair key (roll-Value (layer.Seq parts))))
