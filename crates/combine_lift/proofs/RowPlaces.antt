-- Where rows are found.
use Rattle.std.proofs.Common.{◌≡◌, ℕ, zero, suc, ◌+◌, ◌<◌, ◌≤◌, not, Bool, true, false, cond, ◌&&◌, List, [], ◌∷◌, ◌++◌, length, get_or, map, take, Option, Some, None, refl, sym, ap, subst, ◌∙◌, arith, length-take}
use Rattle.std.specs.List.{position, position_or_len, slice_get}
use Rattle.std.specs.Option.{option_map}
use Rattle.std.specs.Prelude.{nat_lt, slice_set}
use Rattle.std.specs.Str.{bytes_eq}
use Rattle.std.proofs.Math.Seq.{map-set_same}
use Rattle.std.proofs.lemmas.List.{length-map, take_all, take_more}
use Rattle.std.proofs.lemmas.List.Quantifiers.{position-Some}
use Rattle.std.proofs.lemmas.Option.{get_or_from_slice_get}
use Rattle.std.proofs.lemmas.Slice.Eq.{bytes_eq-Decides}
use Rattle.beam_values.specs.Intervals.{Interval}
use Rattle.beam_values.specs.Spans.{same_span}
use Rattle.beam_values.specs.Spelling.{spelling}
use Rattle.beam_values.specs.declared.cell.Cell.{Cell}
use Rattle.beam_values.specs.declared.value.Value.{Value}
use Rattle.cell_index.specs.Places.{is_cell_of, place_of}
use Rattle.cell_index.specs.Indexes.{IsIndexOf}
use Rattle.cell_index.specs.declared.index.CellIndex.{CellIndex}
use Rattle.cell_index.proofs.Indexing.{position_no, position_yes}
use Rattle.combine_lift.specs.Indexed.{cell_of, cells_of}
use Rattle.combine_lift.specs.Tables.{accs_of, is_row_of, row_place, IsRowAt}
use Rattle.combine_lift.specs.declared.row.Row.{Row}
use Rattle.combine_lift.proofs.Pointwise.{accs_no, map_append}

first_of_map : {X Y : Type 0} (p : Y → Bool) (f : X → Y) (xs : List X) → position_or_len p (map f xs) ≡ position_or_len (λ x. p (f x)) xs
first_of_map p f [] = refl
first_of_map p f (x ∷ xs) = ap (λ n. cond (not (p (f x))) (1 + n) 0) (first_of_map p f xs)

position-map : {X Y : Type 0} (p : Y → Bool) (f : X → Y) (xs : List X) → position p (map f xs) ≡ position (λ x. p (f x)) xs
position-map p f xs =
    ap (λ n. cond (nat_lt n (length (map f xs))) (Some n) None) (first_of_map p f xs)
    ∙ ap (λ n. cond (nat_lt (position_or_len (λ x. p (f x)) xs) n) (Some (position_or_len (λ x. p (f x)) xs)) None) (length-map xs f)

-- the place of a row is that of its cell
pub place_is : {A : Type 0} (key : Value) (span : Interval) (rows : List (Row A)) → place_of 0 key span (cells_of rows) ≡ row_place key span rows
place_is key span rows = position-map (is_cell_of 0 key span) cell_of rows

slice_get-map : {X Y : Type 0} (f : X → Y) (xs : List X) (i : ℕ) → slice_get (map f xs) i ≡ option_map f (slice_get xs i)
slice_get-map f [] i = refl
slice_get-map f (x ∷ xs) zero = refl
slice_get-map f (x ∷ xs) (suc i) = slice_get-map f xs i

-- a row of the same key and the same window is that of a key and window
pub seen_at : {A : Type 0} (key : Value) (span : Interval) (rows : List (Row A)) (place : ℕ) (row : Row A) → slice_get rows place ≡ Some row → key ≡ row.key
    → same_span row.span span ≡ true → IsRowAt key span rows place
seen_at key span rows place row there same window = record {
  row = row;
  there = there;
  is =
      ap (λ b. b && same_span row.span span)
      (ap (λ (v : Value). bytes_eq (spelling row.key) (spelling v)) same ∙ (bytes_eq-Decides (spelling row.key) (spelling row.key)).1 refl)
      ∙ window;
}

pub cells_push : {A : Type 0} (rows : List (Row A)) (row : Row A) → cells_of (rows ++ row ∷ []) ≡ cells_of rows ++ cell_of row ∷ []
cells_push rows row = map_append cell_of rows (row ∷ [])

pub length_cells : {A : Type 0} (rows : List (Row A)) → length (cells_of rows) ≡ length rows
length_cells rows = length-map rows cell_of

pub indexed_more : {A : Type 0} (old new : CellIndex) (rows : List (Row A)) (i : ℕ) (row : Row A) → i < length rows → row ≡ get_or rows i row
    → ((cells : List Cell) → IsIndexOf old cells → i ≡ length cells → IsIndexOf new (cells ++ cell_of row ∷ []))
    → IsIndexOf old (cells_of (take i rows)) → IsIndexOf new (cells_of (take (i + 1) rows))
indexed_more {A} old new rows i row within is more indexed =
    let size : i ≡ length (cells_of (take i rows)) = omega (arith, length_cells (take i rows), length-take i rows) in
    let longer : take (i + 1) rows ≡ take i rows ++ row ∷ [] = take_more rows i row within ∙ ap (λ (r : Row A). take i rows ++ r ∷ []) (sym is) in
    subst (IsIndexOf new) (sym (ap cells_of longer ∙ cells_push (take i rows) row)) (more (cells_of (take i rows)) indexed size)

pub indexed_all : {A : Type 0} (index : CellIndex) (rows : List (Row A)) (i : ℕ) → length rows ≤ i → IsIndexOf index (cells_of (take i rows)) → IsIndexOf index (cells_of rows)
indexed_all {A} index rows i past indexed = subst (λ (l : List (Row A)). IsIndexOf index (cells_of l)) (take_all i rows past) indexed

-- a row that is found is of the key and window
found_row : {A : Type 0} (key : Value) (span : Interval) (rows : List (Row A)) (place : ℕ) (row : Row A) → Some place ≡ row_place key span rows
    → slice_get rows place ≡ Some row → is_row_of key span row ≡ true
found_row key span rows place row found there =
    ap (is_row_of key span) (sym (get_or_from_slice_get rows place row row there)) ∙ (position-Some (is_row_of key span) rows place row (sym found)).1

some_there : {X : Type 0} (xs : List X) (i : ℕ) → i < length xs → (x : X) × (slice_get xs i ≡ Some x)
some_there [] i within = absurd (omega arith)
some_there (x ∷ xs) zero within = (x, refl)
some_there (x ∷ xs) (suc i) within = some_there xs i (omega arith)

pub found_within : {A : Type 0} (key : Value) (span : Interval) (rows : List (Row A)) (place : ℕ) → Some place ≡ row_place key span rows → place < length rows
found_within key span [] place found = absurd cc
found_within key span (row ∷ rows) place found = (position-Some (is_row_of key span) (row ∷ rows) place row (sym found)).0

-- a place that is found has the row
pub found_at : {A : Type 0} (key : Value) (span : Interval) (rows : List (Row A)) (place : ℕ) → Some place ≡ row_place key span rows → IsRowAt key span rows place
found_at key span rows place found =
    let row = some_there rows place (found_within key span rows place found) in
    record { row = row.0; there = row.1; is = found_row key span rows place row.0 found row.1 }

none_later : (o : Option ℕ) → option_map suc o ≡ None → o ≡ None
none_later None e = refl
none_later (Some n) e = absurd cc

some_first : {n : ℕ} → Some n ≡ None → ⊥
some_first e = cc

-- where none is found, nothing is kept
pub none_found : {A : Type 0} (key : Value) (span : Interval) (rows : List (Row A)) → row_place key span rows ≡ None → accs_of key span rows ≡ []
none_found key span [] none = refl
none_found key span (row ∷ rows) none = by (is_row_of key span row) refl (none_found key span rows)
  where
    by : (t : Bool) → is_row_of key span row ≡ t → (row_place key span rows ≡ None → accs_of key span rows ≡ []) → accs_of key span (row ∷ rows) ≡ []
    by true test later = absurd (some_first (sym (position_yes (is_row_of key span) row rows test) ∙ none))
    by false test later =
        accs_no key span row rows test ∙ later (none_later (row_place key span rows) (sym (position_no (is_row_of key span) row rows test) ∙ none))

-- another accumulator leaves a row's cell as it is
pub cells_same : {A : Type 0} (rows : List (Row A)) (place : ℕ) (row : Row A) (acc : A) → slice_get rows place ≡ Some row
    → cells_of (slice_set rows place (record row { acc = acc })) ≡ cells_of rows
cells_same rows place row acc there =
    map-set_same cell_of rows place (record row { acc = acc }) row (ap cell_of (sym (get_or_from_slice_get rows place row row there)))
