-- What rows keep of one key and window, and what they stand for.
use Rattle.std.proofs.Common.{◌≡◌, ℕ, zero, suc, ◌≤◌, min, Bool, true, false, cond, List, [], ◌∷◌, ◌++◌, length, map, Some, refl, sym, ap, subst, ◌∙◌, arith, length-append}
use Rattle.std.specs.List.{AllByRecursion, count_by, filter, slice_get}
use Rattle.std.specs.Prelude.{slice_set}
use Rattle.std.specs.List.Sorted.{IsPermutation}
use Rattle.std.proofs.lemmas.Bool.{false≢true}
use Rattle.std.proofs.lemmas.List.{length-map}
use Rattle.std.proofs.lemmas.List.Elements.{All-from_recursion, recursion_from_All, filter-append}
use Rattle.std.proofs.lemmas.List.Sorted.{All-permutation, sum_by-IsPermutation}
use Rattle.std.proofs.lemmas.List.Sums.{length-filter}
use Rattle.beam_values.specs.Intervals.{Interval}
use Rattle.beam_values.specs.declared.value.Value.{Value}
use Rattle.combine_lift.specs.Tables.{Added, accs_of, is_added_to, is_row_of, parts_of, OneStandsFor}
use Rattle.combine_lift.specs.declared.row.Row.{Row}

-- ---- one row in front

pub accs_yes : {A : Type 0} (key : Value) (span : Interval) (row : Row A) (rows : List (Row A)) → is_row_of key span row ≡ true
    → accs_of key span (row ∷ rows) ≡ row.acc ∷ accs_of key span rows
accs_yes {A} key span row rows test =
    ap (λ (b : Bool). map (λ (r : Row A). r.acc) (cond b (row ∷ filter (is_row_of key span) rows) (filter (is_row_of key span) rows))) test

pub accs_no : {A : Type 0} (key : Value) (span : Interval) (row : Row A) (rows : List (Row A)) → is_row_of key span row ≡ false
    → accs_of key span (row ∷ rows) ≡ accs_of key span rows
accs_no {A} key span row rows test =
    ap (λ (b : Bool). map (λ (r : Row A). r.acc) (cond b (row ∷ filter (is_row_of key span) rows) (filter (is_row_of key span) rows))) test

pub map_append : {X Y : Type 0} (f : X → Y) (xs ys : List X) → map f (xs ++ ys) ≡ map f xs ++ map f ys
map_append f [] ys = refl
map_append f (x ∷ xs) ys = ap (λ l. f x ∷ l) (map_append f xs ys)

pub accs_append : {A : Type 0} (key : Value) (span : Interval) (xs ys : List (Row A)) → accs_of key span (xs ++ ys) ≡ accs_of key span xs ++ accs_of key span ys
accs_append {A} key span xs ys =
    ap (map (λ (r : Row A). r.acc)) (filter-append (is_row_of key span) xs ys) ∙ map_append (λ (r : Row A). r.acc) (filter (is_row_of key span) xs) (filter (is_row_of key span) ys)

pub parts_append : (key : Value) (span : Interval) (xs ys : List Added) → parts_of key span (xs ++ ys) ≡ parts_of key span xs ++ parts_of key span ys
parts_append key span xs ys =
    ap (map (λ (a : Added). a.part)) (filter-append (is_added_to key span) xs ys)
    ∙ map_append (λ (a : Added). a.part) (filter (is_added_to key span) xs) (filter (is_added_to key span) ys)

-- ---- rows in another order

module _ {A : Type 0} (stands : A → List Value → Type 0) (key : Value) (span : Interval) (parts : List Value) where
  -- a row of the key and window stands for the parts
  abbrev Stands : Row A → Type 0
  Stands row = is_row_of key span row ≡ true → stands row.acc parts

  accs_stand : (accs : List A) → OneStandsFor stands accs parts → AllByRecursion (λ acc. stands acc parts) accs
  accs_stand [] one = tt
  accs_stand (acc ∷ []) one = (one.1, tt)
  accs_stand (acc ∷ other ∷ accs) one = absurd one

  accs_count : (accs : List A) → OneStandsFor stands accs parts → length accs ≡ min 1 (length parts)
  accs_count [] none = sym (ap (λ (l : List Value). min 1 (length l)) none)
  accs_count (acc ∷ []) one = let some : 1 ≤ length parts = one.0 in omega arith
  accs_count (acc ∷ other ∷ accs) one = absurd one

  no_parts : (ps : List Value) → 0 ≡ min 1 (length ps) → ps ≡ []
  no_parts [] e = refl
  no_parts (p ∷ ps) e = absurd (omega arith)

  stand_again : (accs : List A) → AllByRecursion (λ acc. stands acc parts) accs → length accs ≡ min 1 (length parts) → OneStandsFor stands accs parts
  stand_again [] all count = no_parts parts count
  stand_again (acc ∷ []) all count = (omega (arith, count), all.0)
  stand_again (acc ∷ other ∷ accs) all count = absurd (omega (arith, count))

  rows_stand : (rows : List (Row A)) → AllByRecursion (λ acc. stands acc parts) (accs_of key span rows) → AllByRecursion Stands rows
  rows_stand [] all = tt
  rows_stand (row ∷ rows) all = by (is_row_of key span row) refl (rows_stand rows)
    where
      by : (t : Bool) → is_row_of key span row ≡ t → (AllByRecursion (λ acc. stands acc parts) (accs_of key span rows) → AllByRecursion Stands rows)
          → AllByRecursion Stands (row ∷ rows)
      by true test later =
          let split = subst (AllByRecursion (λ acc. stands acc parts)) (accs_yes key span row rows test) all in
          (λ _. split.0, later split.1)
      by false test later =
          (λ yes. absurd (false≢true (sym test ∙ yes)), later (subst (AllByRecursion (λ acc. stands acc parts)) (accs_no key span row rows test) all))

  accs_of_rows : (rows : List (Row A)) → AllByRecursion Stands rows → AllByRecursion (λ acc. stands acc parts) (accs_of key span rows)
  accs_of_rows [] all = tt
  accs_of_rows (row ∷ rows) all = by (is_row_of key span row) refl (accs_of_rows rows all.1)
    where
      by : (t : Bool) → is_row_of key span row ≡ t → AllByRecursion (λ acc. stands acc parts) (accs_of key span rows)
          → AllByRecursion (λ acc. stands acc parts) (accs_of key span (row ∷ rows))
      by true test later = subst (AllByRecursion (λ acc. stands acc parts)) (sym (accs_yes key span row rows test)) (all.0 test, later)
      by false test later = subst (AllByRecursion (λ acc. stands acc parts)) (sym (accs_no key span row rows test)) later

  length_accs : (rows : List (Row A)) → length (accs_of key span rows) ≡ count_by (is_row_of key span) rows
  length_accs rows = length-map (filter (is_row_of key span) rows) (λ (r : Row A). r.acc) ∙ length-filter (is_row_of key span) rows

  pub stands_permuted : (rows others : List (Row A)) → IsPermutation rows others → OneStandsFor stands (accs_of key span rows) parts
      → OneStandsFor stands (accs_of key span others) parts
  stands_permuted rows others moved one =
      stand_again (accs_of key span others)
      (accs_of_rows others (recursion_from_All Stands others (All-permutation Stands rows others moved
      (All-from_recursion Stands rows (rows_stand rows (accs_stand (accs_of key span rows) one))))))
      (length_accs others ∙ sum_by-IsPermutation (λ row. cond (is_row_of key span row) 1 0) rows others moved ∙ sym (length_accs rows)
      ∙ accs_count (accs_of key span rows) one)

-- ---- one more part

-- an accumulator among others takes more parts
pub takes_more : {A : Type 0} (stands : A → List Value → Type 0) (before after : List A) (acc changed : A) (parts more : List Value)
    → OneStandsFor stands (before ++ acc ∷ after) parts → (stands acc parts → stands changed (parts ++ more)) → OneStandsFor stands (before ++ changed ∷ after) (parts ++ more)
takes_more stands [] [] acc changed parts more one adds = (let some : 1 ≤ length parts = one.0 in omega (arith, length-append parts more), adds one.1)
takes_more stands [] (x ∷ after) acc changed parts more one adds = absurd one
takes_more stands (x ∷ []) after acc changed parts more one adds = absurd one
takes_more stands (x ∷ y ∷ before) after acc changed parts more one adds = absurd one

-- where a row was written over
pub record IsChangedAt {A : Type 0} (acc changed : A) (accs others : List A) : Type 0 where
  pub before : List A
  pub after : List A
  pub was : accs ≡ before ++ acc ∷ after
  pub is : others ≡ before ++ changed ∷ after

module _ {A : Type 0} (key : Value) (span : Interval) (row changed : Row A) where
  pub changed_at : (rows : List (Row A)) (place : ℕ) → is_row_of key span row ≡ true → is_row_of key span changed ≡ true → slice_get rows place ≡ Some row
      → IsChangedAt row.acc changed.acc (accs_of key span rows) (accs_of key span (slice_set rows place changed))
  changed_at [] place holds now there = absurd cc
  changed_at (x ∷ rows) zero holds now there =
      let same : x ≡ row = cc in
      record {
        before = [];
        after = accs_of key span rows;
        was = ap (λ r. accs_of key span (r ∷ rows)) same ∙ accs_yes key span row rows holds;
        is = accs_yes key span changed rows now;
      }
  changed_at (x ∷ rows) (suc place) holds now there = by (is_row_of key span x) refl (changed_at rows place holds now there)
    where
      by : (t : Bool) → is_row_of key span x ≡ t → IsChangedAt row.acc changed.acc (accs_of key span rows) (accs_of key span (slice_set rows place changed))
          → IsChangedAt row.acc changed.acc (accs_of key span (x ∷ rows)) (accs_of key span (x ∷ slice_set rows place changed))
      by true test later = record {
        before = x.acc ∷ later.before;
        after = later.after;
        was = accs_yes key span x rows test ∙ ap (λ l. x.acc ∷ l) later.was;
        is = accs_yes key span x (slice_set rows place changed) test ∙ ap (λ l. x.acc ∷ l) later.is;
      }
      by false test later = record {
        before = later.before;
        after = later.after;
        was = accs_no key span x rows test ∙ later.was;
        is = accs_no key span x (slice_set rows place changed) test ∙ later.is;
      }

  pub unchanged_at : (rows : List (Row A)) (place : ℕ) → is_row_of key span row ≡ false → is_row_of key span changed ≡ false → slice_get rows place ≡ Some row
      → accs_of key span (slice_set rows place changed) ≡ accs_of key span rows
  unchanged_at [] place fails now there = absurd cc
  unchanged_at (x ∷ rows) zero fails now there =
      let same : x ≡ row = cc in
      accs_no key span changed rows now ∙ sym (ap (λ r. accs_of key span (r ∷ rows)) same ∙ accs_no key span row rows fails)
  unchanged_at (x ∷ rows) (suc place) fails now there = by (is_row_of key span x) refl (unchanged_at rows place fails now there)
    where
      by : (t : Bool) → is_row_of key span x ≡ t → accs_of key span (slice_set rows place changed) ≡ accs_of key span rows
          → accs_of key span (x ∷ slice_set rows place changed) ≡ accs_of key span (x ∷ rows)
      by true test later =
          accs_yes key span x (slice_set rows place changed) test ∙ ap (λ l. x.acc ∷ l) later ∙ sym (accs_yes key span x rows test)
      by false test later = accs_no key span x (slice_set rows place changed) test ∙ later ∙ sym (accs_no key span x rows test)
