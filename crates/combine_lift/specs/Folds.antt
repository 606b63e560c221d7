-- What a table gives: the fold of the parts of each key and window.
use Rattle.std.specs.Prelude.{◌≡◌, ◌&&◌, Bool, List, [], ◌∷◌, map, Option}
use Rattle.std.specs.List.{filter, AllZip}
use Rattle.std.specs.List.Sorted.{IsPermutation, IsSorted}
use Rattle.std.specs.Ordering.{on, then_cmp}
use Rattle.std.specs.Str.{bytes_eq}
use Rattle.std.specs.declared.cmp.Ordering.{Ordering}
use Rattle.beam_values.specs.Cells.{span_cmp}
use Rattle.beam_values.specs.Intervals.{Interval}
use Rattle.beam_values.specs.Orders.{value_cmp}
use Rattle.beam_values.specs.Spans.{same_span}
use Rattle.beam_values.specs.Spelling.{spelling}
use Rattle.beam_values.specs.declared.plan.FnKind.{FnKind}
use Rattle.beam_values.specs.declared.value.Value.{Value}
use Rattle.beam_model.specs.Functions.{fold_of}
use Rattle.combine_lift.specs.Tables.{Added, parts_of, row_cmp}
use Rattle.combine_lift.specs.declared.combined.Combined.{Combined}
use Rattle.combine_lift.specs.declared.row.Row.{Row}

abbrev pub is_combined_of : Value → Interval → Combined → Bool
is_combined_of key span combined = bytes_eq (spelling combined.key) (spelling key) && same_span combined.span span

-- what is given of a key and window
abbrev pub values_of : Value → Interval → List Combined → List (Option Value)
values_of key span combined = map (λ c. c.value) (filter (is_combined_of key span) combined)

-- what is to be given of one to which these parts came: their fold, and nothing where none came
abbrev pub fold_or_none : FnKind → List Value → List (Option Value)
fold_or_none work [] = []
fold_or_none work (part ∷ parts) = fold_of work (part ∷ parts) ∷ []

-- by window, and then by the bytes that spell the key
abbrev pub combined_cmp : Combined → Combined → Ordering
combined_cmp = then_cmp (on (λ c. c.span) span_cmp) (on (λ c. c.key) value_cmp)

-- The folds of all that was added, one for each key and window to which a part came, in order. Where 3 and 4 came to "a" and -5 to "b", all in one window,
-- the sums are 7 of "a" and then -5 of "b".
pub record AreFolds (work : FnKind) (added : List Added) (combined : List Combined) : Type 0 where
  pub each : (key : Value) (span : Interval) → values_of key span combined ≡ fold_or_none work (parts_of key span added)
  pub ordered : IsSorted combined_cmp combined

-- what a row gives
pub record IsExtracted {A : Type 0} (stands : A → List Value → Type 0) (work : FnKind) (row : Row A) (combined : Combined) : Type 0 where
  pub key : combined.key ≡ row.key
  pub span : combined.span ≡ row.span
  pub value : (parts : List Value) → stands row.acc parts → combined.value ≡ fold_of work parts

-- what rows give, in order
pub record AreExtracted {A : Type 0} (stands : A → List Value → Type 0) (work : FnKind) (rows : List (Row A)) (combined : List Combined) : Type 0 where
  pub sorted : List (Row A)
  pub same : IsPermutation rows sorted
  pub ordered : IsSorted row_cmp sorted
  pub each : AllZip (IsExtracted stands work) sorted combined
