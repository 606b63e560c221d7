-- What tables keep true.
use Rattle.std.proofs.Common.{◌≡◌, ℕ, zero, suc, ◌+◌, ◌<◌, ◌≤◌, Bool, true, false, List, [], ◌∷◌, ◌++◌, length, get_or, reverse, Some, refl, sym, ap, subst, ◌∙◌, arith}
use Rattle.std.specs.Bool.{OnFalse, OnTrue}
use Rattle.std.specs.List.{slice_get}
use Rattle.std.specs.Prelude.{slice_set}
use Rattle.std.specs.List.Sorted.{IsPermutation}
use Rattle.std.proofs.lemmas.Bool.{false≢true}
use Rattle.std.proofs.lemmas.List.Sorted.{IsPermutation-reverse, length_permutation, sum_by-IsPermutation}
use Rattle.std.proofs.lemmas.List.Sums.{get_or-le-sum_by, sum_by-set, sum_by_push}
use Rattle.std.proofs.lemmas.Option.{get_or_from_slice_get, slice_get_read}
use Rattle.beam_values.specs.declared.value.Value.{Value}
use Rattle.cell_index.specs.Indexes.{IsIndexOf}
use Rattle.cell_index.specs.declared.index.CellIndex.{CellIndex}
use Rattle.combine_lift.specs.Indexed.{cells_of, IsKept}
use Rattle.combine_lift.specs.Merging.{Merges}
use Rattle.combine_lift.specs.Tables.{Table, held_in, AddsAt}
use Rattle.combine_lift.specs.declared.row.Row.{Row}
use Rattle.combine_lift.proofs.Joined.{merged_held}
use Rattle.combine_lift.proofs.RowPlaces.{cells_same}

pub there_within : {X : Type 0} (xs : List X) (i : ℕ) (x : X) → slice_get xs i ≡ Some x → i < length xs
there_within [] i x there = absurd cc
there_within (y ∷ xs) zero x there = omega arith
there_within (y ∷ xs) (suc i) x there = let later : i < length xs = there_within xs i x there in omega arith

module _ {A : Type 0} (stands : A → List Value → Type 0) (held : A → ℕ) (index : CellIndex) where
  pub kept_added : (part : Value) (place : ℕ) (old new : List (Row A)) (indexed : Bool) (parts : ℕ) → AddsAt stands held part place old new
      → IsKept held old index indexed parts → IsKept held new index indexed (parts + 1)
  kept_added part place old new indexed parts adds kept = record {
    places = λ on. subst (IsIndexOf index) (sym (ap cells_of adds.rows ∙ cells_same old place adds.row adds.acc adds.there)) (kept.places on);
    total = omega (
      arith,
      kept.total,
      adds.count,
      ap (held_in held) adds.rows,
      sum_by-set (λ (r : Row A). held r.acc) old place (record adds.row { acc = adds.acc }) adds.row (there_within old place adds.row adds.there),
      ap (λ (r : Row A). held r.acc) (get_or_from_slice_get old place adds.row adds.row adds.there),
    );
  }

  pub kept_same : (old new : List (Row A)) (indexed : Bool) (parts : ℕ) → new ≡ old → IsKept held old index indexed parts → IsKept held new index indexed parts
  kept_same old new indexed parts same kept = subst (λ l. IsKept held l index indexed parts) (sym same) kept

  pub kept_opened : (old new : List (Row A)) (row : Row A) (indexed : Bool) (parts : ℕ) → new ≡ old ++ row ∷ [] → held row.acc ≡ 1
      → IsIndexOf index (cells_of (old ++ row ∷ [])) → parts ≡ held_in held old → IsKept held new index indexed (parts + 1)
  kept_opened old new row indexed parts longer one noted total = record {
    places = λ on. subst (λ l. IsIndexOf index (cells_of l)) (sym longer) noted;
    total = omega (arith, total, one, ap (held_in held) longer, sum_by_push (λ (r : Row A). held r.acc) old row);
  }

  pub kept_merged : (rows others falling also merged : List (Row A)) (parts more : ℕ) → IsPermutation rows falling → IsPermutation others also
      → Merges stands held (reverse falling) (reverse also) merged → parts ≡ held_in held rows → more ≡ held_in held others
      → IsKept held merged index false (parts + more)
  kept_merged rows others falling also merged parts more moved turned merges total counted = record {
    places = λ e. absurd (false≢true e);
    total = omega (
      arith,
      total,
      counted,
      merged_held stands held merges,
      sum_by-IsPermutation (λ (r : Row A). held r.acc) rows falling moved,
      sum_by-IsPermutation (λ (r : Row A). held r.acc) others also turned,
      sum_by-IsPermutation (λ (r : Row A). held r.acc) falling (reverse falling) (IsPermutation-reverse falling),
      sum_by-IsPermutation (λ (r : Row A). held r.acc) also (reverse also) (IsPermutation-reverse also),
    );
  }

  pub kept_new : (rows : List (Row A)) → rows ≡ [] → IsIndexOf index [] → IsKept held rows index true 0
  kept_new rows none start = record {
    places = λ on. subst (λ (l : List (Row A)). IsIndexOf index (cells_of l)) (sym none) start;
    total = sym (ap (held_in held) none);
  }

-- ---- by what a table is seen as

module _ {A : Type 0} (held : A → ℕ) where
  pub few_more : (table : Table A) (rows : List (Row A)) (parts most : ℕ) → record { rows = rows; parts = parts } ≡ table → parts ≡ held_in held rows
      → table.parts + 1 < most → held_in held rows + 1 < most
  few_more table rows parts most seen total few = omega (arith, total, few, ap (λ (t : Table A). t.parts) seen)

  pub few_joined : (a b : Table A) (rows others falling also : List (Row A)) (parts more most : ℕ) → record { rows = rows; parts = parts } ≡ a
      → record { rows = others; parts = more } ≡ b → IsPermutation rows falling → IsPermutation others also → parts ≡ held_in held rows → more ≡ held_in held others
      → a.parts + b.parts < most → held_in held falling + held_in held also < most
  few_joined a b rows others falling also parts more most seen seen_also moved turned total counted few =
      omega (
        arith,
        total,
        counted,
        few,
        ap (λ (t : Table A). t.parts) seen,
        ap (λ (t : Table A). t.parts) seen_also,
        sum_by-IsPermutation (λ (r : Row A). held r.acc) rows falling moved,
        sum_by-IsPermutation (λ (r : Row A). held r.acc) others also turned,
      )

  pub room_joined : (a b : Table A) (rows others falling also : List (Row A)) (parts more room : ℕ) → record { rows = rows; parts = parts } ≡ a
      → record { rows = others; parts = more } ≡ b → IsPermutation rows falling → IsPermutation others also → length a.rows + length b.rows ≤ room
      → length falling + length also ≤ room
  room_joined a b rows others falling also parts more room seen seen_also moved turned within =
      omega (
        arith,
        within,
        ap (λ (t : Table A). length t.rows) seen,
        ap (λ (t : Table A). length t.rows) seen_also,
        length_permutation rows falling moved,
        length_permutation others also turned,
      )

  pub held_at : (rows : List (Row A)) (place most : ℕ) (row : Row A) → place < length rows → row ≡ get_or rows place row → held_in held rows + 1 < most → held row.acc + 1 < most
  held_at rows place most row within is few =
      omega (arith, few, ap (λ (r : Row A). held r.acc) is, get_or-le-sum_by (λ (r : Row A). held r.acc) rows place row within)

-- ---- one row written over

there_read : {X : Type 0} (xs : List X) (i : ℕ) (x : X) → i < length xs → x ≡ get_or xs i x → slice_get xs i ≡ Some x
there_read xs i x within is = slice_get_read xs (length xs) i x refl within is

set_same : {X : Type 0} (xs : List X) (i : ℕ) (x : X) → slice_get xs i ≡ Some x → slice_set xs i x ≡ xs
set_same [] i x there = absurd cc
set_same (y ∷ xs) zero x there = let same : y ≡ x = cc in ap (λ z. z ∷ xs) (sym same)
set_same (y ∷ xs) (suc i) x there = ap (λ l. y ∷ l) (set_same xs i x there)

pub adds_if : {A : Type 0} (stands : A → List Value → Type 0) (held : A → ℕ) (part : Value) (rows : List (Row A)) (place : ℕ) (row : Row A) (acc : A) (taken : Bool)
    → place < length rows → row ≡ get_or rows place row → OnTrue taken ((parts : List Value) → stands row.acc parts → stands acc (parts ++ part ∷ []))
    → OnTrue taken (held acc ≡ held row.acc + 1) → OnTrue taken (AddsAt stands held part place rows (slice_set rows place (record row { acc = acc })))
adds_if stands held part rows place row acc true within is adds count = record {
  row = row;
  acc = acc;
  there = there_read rows place row within is;
  rows = refl;
  adds = adds;
  count = count;
}
adds_if stands held part rows place row acc false within is adds count = tt

pub same_unless : {A : Type 0} (rows : List (Row A)) (place : ℕ) (row : Row A) (acc : A) (taken : Bool) → place < length rows → row ≡ get_or rows place row
    → OnFalse taken (acc ≡ row.acc) → OnFalse taken (slice_set rows place (record row { acc = acc }) ≡ rows)
same_unless rows place row acc true within is kept = tt
same_unless {A} rows place row acc false within is kept =
    ap (λ (a : A). slice_set rows place (record row { acc = a })) kept ∙ set_same rows place row (there_read rows place row within is)

-- ---- by the answer of an add

pub kept_same_unless : {A : Type 0} (stands : A → List Value → Type 0) (held : A → ℕ) (index : CellIndex) (old new : List (Row A)) (indexed : Bool) (parts : ℕ) (taken : Bool)
    → taken ≡ false → OnFalse taken (new ≡ old) → IsKept held old index indexed parts → IsKept held new index indexed parts
kept_same_unless stands held index old new indexed parts true is same kept = absurd (false≢true (sym is))
kept_same_unless stands held index old new indexed parts false is same kept = kept_same stands held index old new indexed parts same kept

pub kept_added_if : {A : Type 0} (stands : A → List Value → Type 0) (held : A → ℕ) (index : CellIndex) (part : Value) (place : ℕ) (old new : List (Row A)) (indexed : Bool) (parts : ℕ)
    (taken : Bool) → taken ≡ true → OnTrue taken (AddsAt stands held part place old new) → IsKept held old index indexed parts → IsKept held new index indexed (parts + 1)
kept_added_if stands held index part place old new indexed parts true is adds kept = kept_added stands held index part place old new indexed parts adds kept
kept_added_if stands held index part place old new indexed parts false is adds kept = absurd (false≢true is)

pub seen_same : {A : Type 0} (table : Table A) (old new : List (Row A)) (parts : ℕ) (taken : Bool) → taken ≡ false → record { rows = old; parts = parts } ≡ table
    → OnFalse taken (new ≡ old) → record { rows = new; parts = parts } ≡ table
seen_same table old new parts true is seen same = absurd (false≢true (sym is))
seen_same {A} table old new parts false is seen same =
    ap (λ (l : List (Row A)). let t : Table A = record { rows = l; parts = parts } in t) same ∙ seen

pub seen_added : {A : Type 0} (stands : A → List Value → Type 0) (held : A → ℕ) (table : Table A) (part : Value) (place : ℕ) (old new : List (Row A)) (parts : ℕ) (taken : Bool)
    → taken ≡ true → record { rows = old; parts = parts } ≡ table → OnTrue taken (AddsAt stands held part place old new) → AddsAt stands held part place table.rows new
seen_added {A} stands held table part place old new parts true is seen adds = subst (λ (t : Table A). AddsAt stands held part place t.rows new) seen adds
seen_added stands held table part place old new parts false is seen adds = absurd (false≢true is)
