-- Tables of partial results: one row for each key and window, and what rows stand for.
use Rattle.std.specs.Prelude.{◌≡◌, ℕ, ◌+◌, ◌≤◌, Bool, true, ◌&&◌, List, [], ◌∷◌, ◌++◌, length, map, slice_get, slice_set, Option, Some}
use Rattle.std.specs.List.{filter, position, sum_by}
use Rattle.std.specs.Ordering.{on, then_cmp}
use Rattle.std.specs.Str.{bytes_eq}
use Rattle.std.specs.declared.cmp.Ordering.{Ordering}
use Rattle.beam_values.specs.Cells.{span_cmp}
use Rattle.beam_values.specs.Intervals.{Interval}
use Rattle.beam_values.specs.Orders.{value_cmp}
use Rattle.beam_values.specs.Spans.{same_span}
use Rattle.beam_values.specs.Spelling.{spelling}
use Rattle.beam_values.specs.declared.value.Value.{Value}
use Rattle.combine_lift.specs.declared.row.Row.{Row}

-- what a table is seen as: its rows, in any order, and how many parts came to them
pub record Table (A : Type 0) : Type 0 where
  pub rows : List (Row A)
  pub parts : ℕ

-- a part that came to a key and a window
pub record Added : Type 0 where
  pub key : Value
  pub span : Interval
  pub part : Value

-- a row of a key and a window; keys are equal where their spellings are
abbrev pub is_row_of : {A : Type 0} → Value → Interval → Row A → Bool
is_row_of key span row = bytes_eq (spelling row.key) (spelling key) && same_span row.span span

abbrev pub is_added_to : Value → Interval → Added → Bool
is_added_to key span added = bytes_eq (spelling added.key) (spelling key) && same_span added.span span

-- what is kept of a key and window, and the parts that came to it, in order
abbrev pub accs_of : {A : Type 0} → Value → Interval → List (Row A) → List A
accs_of key span rows = map (λ row. row.acc) (filter (is_row_of key span) rows)

abbrev pub parts_of : Value → Interval → List Added → List Value
parts_of key span added = map (λ a. a.part) (filter (is_added_to key span) added)

-- how many parts came to rows, all together
abbrev pub held_in : {A : Type 0} → (A → ℕ) → List (Row A) → ℕ
held_in held rows = sum_by (λ row. held row.acc) rows

-- nothing is kept where no part came, and else one accumulator, which stands for the parts
abbrev pub OneStandsFor : {A : Type 0} → (A → List Value → Type 0) → List A → List Value → Type 0
OneStandsFor stands [] parts = parts ≡ []
OneStandsFor stands (acc ∷ []) parts = (1 ≤ length parts) × stands acc parts
OneStandsFor stands (acc ∷ other ∷ accs) parts = ⊥

-- A table stands for what was added. Where 3 and 4 came to "a" and -5 to "b", all in one window, it has one row of "a", for 3 and 4, one of "b", for -5,
-- and 3 parts.
pub record StandsFor {A : Type 0} (stands : A → List Value → Type 0) (table : Table A) (added : List Added) : Type 0 where
  pub each : (key : Value) (span : Interval) → OneStandsFor stands (accs_of key span table.rows) (parts_of key span added)
  pub parts : table.parts ≡ length added

-- the place of the row of a key and window, if there is one
abbrev pub row_place : {A : Type 0} → Value → Interval → List (Row A) → Option ℕ
row_place key span rows = position (is_row_of key span) rows

-- the row at a place is of a key and window
pub record IsRowAt {A : Type 0} (key : Value) (span : Interval) (rows : List (Row A)) (place : ℕ) : Type 0 where
  pub row : Row A
  pub there : slice_get rows place ≡ Some row
  pub is : is_row_of key span row ≡ true

-- the accumulator of one row took a part
pub record AddsAt {A : Type 0} (stands : A → List Value → Type 0) (held : A → ℕ) (part : Value) (place : ℕ) (old new : List (Row A)) : Type 0 where
  pub row : Row A
  pub acc : A
  pub there : slice_get old place ≡ Some row
  pub rows : new ≡ slice_set old place (record row { acc = acc })
  pub adds : (parts : List Value) → stands row.acc parts → stands acc (parts ++ part ∷ [])
  pub count : held acc ≡ held row.acc + 1

-- rows by window, and then by the bytes that spell the key
abbrev pub row_cmp : {A : Type 0} → Row A → Row A → Ordering
row_cmp = then_cmp (on (λ row. row.span) span_cmp) (on (λ row. row.key) value_cmp)
