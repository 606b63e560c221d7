-- Panes of folded rows: plain grouping of the elements that were folded.
use Rattle.std.proofs.Common.{◌≡◌, min, Bool, true, false, cond, ◌&&◌, List, [], ◌∷◌, ◌++◌, append_assoc, length, map, Option, refl, sym, ap, subst, ◌∙◌, arith}
use Rattle.std.specs.Prelude.{if◌then◌else◌}
use Rattle.std.specs.List.{AllByRecursion, count_by, filter}
use Rattle.std.specs.Ordering.{int_eq, is_lt}
use Rattle.std.specs.Str.{bytes_eq}
use Rattle.std.proofs.lemmas.Bool.{and_from, and_parts}
use Rattle.std.proofs.lemmas.Bool.Decides.{Decides-int_eq}
use Rattle.std.proofs.lemmas.List.{length-map, map-append}
use Rattle.std.proofs.lemmas.List.Elements.{All-from_recursion, filter-append}
use Rattle.std.proofs.lemmas.List.Sums.{length-filter}
use Rattle.std.proofs.lemmas.Slice.Eq.{bytes_eq-Decides}
use Rattle.beam_values.specs.Grouping.{IsPlainGrouping, IsPlainPane, is_in_cell, key_of, pane_with, part_of}
use Rattle.beam_values.specs.Intervals.{Interval}
use Rattle.beam_values.specs.Orders.{value_cmp}
use Rattle.beam_values.specs.Sessions.{IsNonEmpty}
use Rattle.beam_values.specs.Spans.{same_span}
use Rattle.beam_values.specs.Spelling.{spelling}
use Rattle.beam_values.specs.Storable.{IsStorable}
use Rattle.beam_values.specs.declared.element.Element.{Element}
use Rattle.beam_values.specs.declared.plan.FnKind.{FnKind}
use Rattle.beam_values.specs.declared.value.Value.{Value}
use Rattle.beam_values.proofs.Bags.{bag_trans, bag_from_same}
use Rattle.beam_values.proofs.GroupedCells.{pane_key}
use Rattle.beam_model.specs.Functions.{ascending, fold_of, insert_value}
use Rattle.beam_model.proofs.Ascending.{ascending_same, ascending_sorted}
use Rattle.combine_lift.specs.Folds.{AreFolds, fold_or_none, is_combined_of, values_of}
use Rattle.combine_lift.specs.Tables.{Added, is_added_to, parts_of}
use Rattle.combine_lift.specs.declared.combined.Combined.{Combined}
use Rattle.combine_laws.specs.Brought.{added_of}
use Rattle.combine_laws.specs.Lasting.{pane_of}
use Rattle.combine_laws.proofs.Lists.{count-map}

-- ---- keys and windows

regroup : (a b c : Bool) → ((a && b) && c) ≡ (a && (b && c))
regroup true b c = refl
regroup false b c = refl

-- one test of three words for one thing
pub cell_of_added : (key : Value) (span : Interval) (e : Element) → is_in_cell key span e ≡ is_added_to key span (added_of e)
cell_of_added key span e = regroup (bytes_eq (spelling (key_of e)) (spelling key)) (int_eq e.span.start span.start) (int_eq e.span.end span.end)

pub cell_of_row : (key : Value) (span : Interval) (row : Combined) (parts : List Value) → is_in_cell key span (pane_with row.key row.span parts) ≡ is_combined_of key span row
cell_of_row key span row parts =
    regroup (bytes_eq (spelling (key_of (pane_with row.key row.span parts))) (spelling key)) (int_eq row.span.start span.start) (int_eq row.span.end span.end)
    ∙ ap (λ (k : Value). bytes_eq (spelling k) (spelling key) && same_span row.span span) (pane_key row.key row.span parts)

-- a key and window is its own
pub row_itself : (row : Combined) → is_combined_of row.key row.span row ≡ true
row_itself row =
    and_from _ _ ((bytes_eq-Decides (spelling row.key) (spelling row.key)).1 refl)
    (and_from _ _ ((Decides-int_eq row.span.start row.span.start).1 refl) ((Decides-int_eq row.span.end row.span.end).1 refl))

-- windows that are the same to a test
pub span_alike : (a b : Interval) → same_span a b ≡ true → a ≡ b
span_alike a b is =
    let parts = and_parts (int_eq a.start b.start) (int_eq a.end b.end) is in
    let first : a.start ≡ b.start = (Decides-int_eq a.start b.start).0 parts.0 in
    let second : a.end ≡ b.end = (Decides-int_eq a.end b.end).0 parts.1 in
    λ i. record { start = first i; end = second i }

-- the parts of a key and window are those of the elements in its cell
pub parts_in_cell : (key : Value) (span : Interval) (elements : List Element) → parts_of key span (map added_of elements) ≡ map part_of (filter (is_in_cell key span) elements)
parts_in_cell key span [] = refl
parts_in_cell key span (e ∷ elements) = by (is_in_cell key span e) refl (parts_in_cell key span elements)
  where
    by : (b : Bool) → is_in_cell key span e ≡ b → parts_of key span (map added_of elements) ≡ map part_of (filter (is_in_cell key span) elements)
        → parts_of key span (map added_of (e ∷ elements)) ≡ map part_of (cond b (e ∷ filter (is_in_cell key span) elements) (filter (is_in_cell key span) elements))
    by true is same =
        ap (λ b. map (λ (a : Added). a.part) (cond b (added_of e ∷ filter (is_added_to key span) (map added_of elements)) (filter (is_added_to key span) (map added_of elements))))
        (sym (cell_of_added key span e) ∙ is)
        ∙ ap (λ l. part_of e ∷ l) same
    by false is same =
        ap (λ b. map (λ (a : Added). a.part) (cond b (added_of e ∷ filter (is_added_to key span) (map added_of elements)) (filter (is_added_to key span) (map added_of elements))))
        (sym (cell_of_added key span e) ∙ is)
        ∙ same

-- ---- the values of rows

values_at : (key : Value) (span : Interval) (front later : List Combined) (row : Combined) → is_combined_of key span row ≡ true
    → values_of key span (front ++ row ∷ later) ≡ values_of key span front ++ row.value ∷ values_of key span later
values_at key span front later row is =
    ap (map (λ (c : Combined). c.value)) (filter-append (is_combined_of key span) front (row ∷ later))
    ∙ map-append (λ (c : Combined). c.value) (filter (is_combined_of key span) front) (filter (is_combined_of key span) (row ∷ later))
    ∙ ap (λ b. values_of key span front ++ map (λ (c : Combined). c.value) (cond b (row ∷ filter (is_combined_of key span) later) (filter (is_combined_of key span) later))) is

-- the only value of a key and window is the fold of its parts, of which there are some
pub record IsFoldOf (work : FnKind) (parts : List Value) (value : Option Value) : Type 0 where
  pub some : (parts ≡ []) → ⊥
  pub folded : value ≡ fold_of work parts

only_value : (work : FnKind) (front later : List (Option Value)) (value : Option Value) (parts : List Value) → front ++ value ∷ later ≡ fold_or_none work parts → IsFoldOf work parts value
only_value work [] later value [] same = absurd cc
only_value work [] later value (part ∷ parts) same = record { some = λ none. absurd cc; folded = first later same }
  where
    first : (rest : List (Option Value)) → value ∷ rest ≡ fold_of work (part ∷ parts) ∷ [] → value ≡ fold_of work (part ∷ parts)
    first rest same = cc
only_value work (other ∷ front) later value [] same = absurd cc
only_value work (other ∷ []) later value (part ∷ parts) same = absurd cc
only_value work (other ∷ another ∷ front) later value (part ∷ parts) same = absurd cc

module _ (work : FnKind) (added : List Added) (rows : List Combined) (folds : AreFolds work added rows) where
  pub fold_of_row : (front later : List Combined) (row : Combined) → rows ≡ front ++ row ∷ later → IsFoldOf work (parts_of row.key row.span added) row.value
  fold_of_row front later row is =
      only_value work (values_of row.key row.span front) (values_of row.key row.span later) row.value (parts_of row.key row.span added)
      (sym (values_at row.key row.span front later row (row_itself row)) ∙ ap (values_of row.key row.span) (sym is) ∙ folds.each row.key row.span)

  folds_from : (front later : List Combined) → rows ≡ front ++ later → AllByRecursion (λ row. IsFoldOf work (parts_of row.key row.span added) row.value) later
  folds_from front [] is = tt
  folds_from front (row ∷ later) is = (fold_of_row front later row is, folds_from (front ++ row ∷ []) later (is ∙ sym (append_assoc front (row ∷ []) later)))

  -- every row has the fold of its parts
  pub folds_of_rows : AllByRecursion (λ row. IsFoldOf work (parts_of row.key row.span added) row.value) rows
  folds_of_rows = folds_from [] rows refl

-- ---- the panes of rows

length_folds : (work : FnKind) (parts : List Value) → length (fold_or_none work parts) ≡ min 1 (length parts)
length_folds work [] = refl
length_folds work (part ∷ parts) = omega arith

module _ (work : FnKind) (elements : List Element) (rows : List Combined) (folds : AreFolds work (map added_of elements) rows) where
  pane_plain : (row : Combined) → IsPlainPane elements (pane_of (map added_of elements) row)
  pane_plain row =
      let parts : List Value = ascending (parts_of row.key row.span (map added_of elements)) in
      let key : key_of (pane_with row.key row.span parts) ≡ row.key = pane_key row.key row.span parts in
      record {
        parts = parts;
        holds = ap (λ (k : Value). pane_with k row.span parts) (sym key);
        ascending = ascending_sorted (parts_of row.key row.span (map added_of elements));
        all = bag_trans parts (parts_of row.key row.span (map added_of elements)) (map part_of (filter (is_in_cell (key_of (pane_with row.key row.span parts)) row.span) elements))
            (ascending_same (parts_of row.key row.span (map added_of elements)))
            (bag_from_same _ _
            (parts_in_cell row.key row.span elements ∙ ap (λ (k : Value). map part_of (filter (is_in_cell k row.span) elements)) (sym key)));
      }

  panes_plain : (some : List Combined) → AllByRecursion (IsPlainPane elements) (map (pane_of (map added_of elements)) some)
  panes_plain [] = tt
  panes_plain (row ∷ later) = (pane_plain row, panes_plain later)

  panes_once : (key : Value) (span : Interval) → count_by (is_in_cell key span) (map (pane_of (map added_of elements)) rows) ≡ min 1 (count_by (is_in_cell key span) elements)
  panes_once key span =
      count-map (is_in_cell key span) (pane_of (map added_of elements)) rows
      ∙ (λ i. count_by (λ row. cell_of_row key span row (ascending (parts_of row.key row.span (map added_of elements))) i) rows)
      ∙ sym (length-filter (is_combined_of key span) rows)
      ∙ sym (length-map (filter (is_combined_of key span) rows) (λ (c : Combined). c.value))
      ∙ ap length (folds.each key span)
      ∙ length_folds work (parts_of key span (map added_of elements))
      ∙ ap (min 1)
      (ap length (parts_in_cell key span elements) ∙ length-map (filter (is_in_cell key span) elements) part_of ∙ length-filter (is_in_cell key span) elements)

  pub panes_grouped : IsPlainGrouping elements (map (pane_of (map added_of elements)) rows)
  panes_grouped = record {
    each = All-from_recursion (IsPlainPane elements) (map (pane_of (map added_of elements)) rows) (panes_plain rows);
    once = panes_once;
  }

-- ---- what panes hold

inserted_storable : (v : Value) (vs : List Value) → IsStorable v → AllByRecursion IsStorable vs → AllByRecursion IsStorable (insert_value v vs)
inserted_storable v [] first each = (first, tt)
inserted_storable v (w ∷ ws) first each = by (is_lt (value_cmp w v)) (inserted_storable v ws first each.1)
  where
    by : (b : Bool) → AllByRecursion IsStorable (insert_value v ws) → AllByRecursion IsStorable (if b then w ∷ insert_value v ws else v ∷ w ∷ ws)
    by true later = (each.0, later)
    by false later = (first, each)

pub ascending_storable : (vs : List Value) → AllByRecursion IsStorable vs → AllByRecursion IsStorable (ascending vs)
ascending_storable [] each = tt
ascending_storable (v ∷ vs) each = inserted_storable v (ascending vs) each.0 (ascending_storable vs each.1)

pub parts_storable : (key : Value) (span : Interval) (added : List Added) → AllByRecursion (λ a. IsStorable a.part) added → AllByRecursion IsStorable (parts_of key span added)
parts_storable key span [] each = tt
parts_storable key span (a ∷ added) each = by (is_added_to key span a) (parts_storable key span added each.1)
  where
    by : (b : Bool) → AllByRecursion IsStorable (parts_of key span added)
        → AllByRecursion IsStorable (map (λ (x : Added). x.part) (cond b (a ∷ filter (is_added_to key span) added) (filter (is_added_to key span) added)))
    by true later = (each.0, later)
    by false later = later

-- a window to which some part came holds some time, where those of all parts do
pub some_time : (key : Value) (span : Interval) (added : List Added) → AllByRecursion (λ a. IsNonEmpty a.span) added → ((parts_of key span added ≡ []) → ⊥) → IsNonEmpty span
some_time key span [] each some = absurd (some refl)
some_time key span (a ∷ added) each some = by (is_added_to key span a) refl (some_time key span added each.1)
  where
    by : (b : Bool) → is_added_to key span a ≡ b → (((parts_of key span added ≡ []) → ⊥) → IsNonEmpty span) → IsNonEmpty span
    by true is later = subst IsNonEmpty (span_alike a.span span (and_parts (bytes_eq (spelling a.key) (spelling key)) (same_span a.span span) is).1) each.0
    by false is later = later (λ none. some (without is ∙ none))
      where
        without : is_added_to key span a ≡ false → parts_of key span (a ∷ added) ≡ parts_of key span added
        without fails = ap (λ b. map (λ (x : Added). x.part) (cond b (a ∷ filter (is_added_to key span) added) (filter (is_added_to key span) added))) fails
