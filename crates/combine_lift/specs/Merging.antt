-- How two tables become one: their rows in ascending order, those of one key and window joined.
use Rattle.std.specs.Prelude.{◌≡◌, ℕ, ◌+◌, ◌<◌, ◌≤◌, List, [], ◌∷◌, ◌++◌, length, reverse}
use Rattle.std.specs.declared.cmp.Ordering.TheVariants.{Less, Equal}
use Rattle.beam_values.specs.declared.value.Value.{Value}
use Rattle.combine_lift.specs.Tables.{held_in, row_cmp}
use Rattle.combine_lift.specs.declared.row.Row.{Row}

-- an accumulator stands for the parts of two
pub record IsJoined {A : Type 0} (stands : A → List Value → Type 0) (held : A → ℕ) (a b both : A) : Type 0 where
  pub joins : (parts others : List Value) → stands a parts → stands b others → stands both (parts ++ others)
  pub count : held both ≡ held a + held b

-- a row comes before the first of others
abbrev pub IsBeforeFirst : {A : Type 0} → Row A → List (Row A) → Type 0
IsBeforeFirst row [] = Unit {0}
IsBeforeFirst row (other ∷ others) = row_cmp row other ≡ Less

-- Two lists in ascending order are merged: the lesser of their first rows comes first, and two of one key and window are joined. Of the keys "a", "c" and
-- "b", "c" there come "a", "b" and one joined row of "c".
pub data Merges {A : Type 0} (stands : A → List Value → Type 0) (held : A → ℕ) : List (Row A) → List (Row A) → List (Row A) → Type 0 where
  nothing : Merges stands held [] [] []
  first : {row : Row A} {rows others merged : List (Row A)} → IsBeforeFirst row others → Merges stands held rows others merged
      → Merges stands held (row ∷ rows) others (row ∷ merged)
  second : {other : Row A} {rows others merged : List (Row A)} → IsBeforeFirst other rows → Merges stands held rows others merged
      → Merges stands held rows (other ∷ others) (other ∷ merged)
  both : {row other : Row A} {rows others merged : List (Row A)} {acc : A} → row_cmp row other ≡ Equal → IsJoined stands held row.acc other.acc acc
      → Merges stands held rows others merged → Merges stands held (row ∷ rows) (other ∷ others) (record row { acc = acc } ∷ merged)

-- the last rows of two lists were taken, and joined to one
pub record TakesBoth {A : Type 0} (stands : A → List Value → Type 0) (held : A → ℕ) (rows others rest left : List (Row A)) (row : Row A) : Type 0 where
  pub first : Row A
  pub second : Row A
  pub split : rows ≡ rest ++ first ∷ []
  pub split_also : others ≡ left ++ second ∷ []
  pub place : row ≡ record first { acc = row.acc }
  pub joined : IsJoined stands held first.acc second.acc row.acc

-- The least row of two lists in falling order was taken: what the rest merges to, with the row before it, the lists merge to.
pub record TakesLeast {A : Type 0} (stands : A → List Value → Type 0) (held : A → ℕ) (rows others rest left : List (Row A)) (row : Row A) : Type 0 where
  pub merges : (merged : List (Row A)) → Merges stands held (reverse rest) (reverse left) merged → Merges stands held (reverse rows) (reverse others) (row ∷ merged)
  pub fewer : length rest + length left < length rows + length others
  pub fits : held_in held rest + held_in held left ≤ held_in held rows + held_in held others
