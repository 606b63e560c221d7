-- A table seen before and after a row was found or opened.
use Rattle.std.proofs.Common.{◌≡◌, ℕ, ◌+◌, ◌<◌, Bool, true, false, List, [], ◌∷◌, ◌++◌, length, Some, Result, Ok, Err, OnErr, sym, ap, subst, ◌∙◌}
use Rattle.std.specs.Bool.{OnFalse, OnTrue}
use Rattle.std.proofs.lemmas.Bool.{false≢true}
use Rattle.beam_values.specs.Intervals.{Interval}
use Rattle.beam_values.specs.declared.value.Value.{Value}
use Rattle.cell_index.specs.declared.index_key.CellKey.{CellKey}
use Rattle.combine_lift.specs.Tables.{Table, row_place}
use Rattle.combine_lift.specs.declared.row.Row.{Row}
use Rattle.combine_lift.proofs.RowPlaces.{found_within}

module _ {A : Type 0} where
  pub within_same : (key : Value) (span : Interval) (old mid : Table A) (place : ℕ) → mid ≡ old → Some place ≡ row_place key span old.rows → place < length mid.rows
  within_same key span old mid place same found =
      subst (λ (t : Table A). place < length t.rows) (sym same) (found_within key span old.rows place found)

  pub few_same : (old mid : Table A) (most : ℕ) → mid ≡ old → old.parts + 1 < most → mid.parts + 1 < most
  few_same old mid most same few = subst (λ (t : Table A). t.parts + 1 < most) (sym same) few

  pub parts_same : (old mid new : Table A) (taken : Bool) → mid ≡ old → OnTrue taken (new.parts ≡ mid.parts + 1) → OnTrue taken (new.parts ≡ old.parts + 1)
  parts_same old mid new true same one = one ∙ ap (λ (t : Table A). t.parts + 1) same
  parts_same old mid new false same one = tt

  pub kept_same_table : (old mid new : Table A) (taken : Bool) → mid ≡ old → OnFalse taken (new ≡ mid) → OnFalse taken (new ≡ old)
  kept_same_table old mid new true same kept = tt
  kept_same_table old mid new false same kept = kept ∙ same

  pub seen_rows : (table : Table A) (rows again : List (Row A)) (parts : ℕ) → again ≡ rows → record { rows = rows; parts = parts } ≡ table
      → record { rows = again; parts = parts } ≡ table
  seen_rows table rows again parts same seen = ap (λ (l : List (Row A)). let t : Table A = record { rows = l; parts = parts } in t) same ∙ seen

  pub seen_opened : (table : Table A) (rows again new : List (Row A)) (row own : Row A) (parts : ℕ) → again ≡ rows → record { rows = rows; parts = parts } ≡ table
      → new ≡ again ++ row ∷ [] → row ≡ own
      → ◌≡◌ {A = Table A} (record { rows = new; parts = parts + 1 }) (record { rows = table.rows ++ own ∷ []; parts = table.parts + 1 })
  seen_opened table rows again new row own parts same seen longer is =
      ap (λ (l : List (Row A)). let t : Table A = record { rows = l; parts = parts + 1 } in t)
      (longer ∙ ap (λ (l : List (Row A)). l ++ row ∷ []) same ∙ ap (λ (r : Row A). rows ++ r ∷ []) is)
      ∙ ap (λ (t : Table A). let u : Table A = record { rows = t.rows ++ own ∷ []; parts = t.parts + 1 } in u) seen

pub opened_is : {A : Type 0} (acc : A) (span : Interval) (key : Value) (k : CellKey) → k ≡ record { node = 0; span = span; key = key }
    → (let r : Row A = record { span = k.span; key = k.key; acc = acc } in r) ≡ record { span = span; key = key; acc = acc }
opened_is {A} acc span key k e = ap (λ (k : CellKey). let r : Row A = record { span = k.span; key = k.key; acc = acc } in r) e

pub always_on_err : {T E : Type 0} (r : Result T E) (P : Type 0) → P → OnErr r P
always_on_err (Ok x) P p = tt
always_on_err (Err e) P p = p

pub one_more : (taken : Bool) (n m : ℕ) → taken ≡ true → OnTrue taken (n ≡ m + 1) → m ≡ 0 → n ≡ 1
one_more true n m is more none = more ∙ ap (λ k. k + 1) none
one_more false n m is more none = absurd (false≢true is)
