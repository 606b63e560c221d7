-- The rows of two tables, put in order and merged, stand for what was added to both.
use Rattle.std.proofs.Common.{◌≡◌, ℕ, suc, ◌+◌, ◌-◌, false, List, [], ◌∷◌, ◌++◌, length, get_or, reverse, refl, sym, ap, subst, ◌∙◌, arith, length-append}
use Rattle.std.specs.Cmp.{IsTotalOrder}
use Rattle.std.specs.List.Sorted.{IsPermutation, IsSorted}
use Rattle.std.specs.Ordering.{is_lt}
use Rattle.std.specs.declared.cmp.Ordering.{Ordering}
use Rattle.std.proofs.lemmas.List.{get_or-reverse, length-reverse, nil_from_length}
use Rattle.std.proofs.lemmas.List.Elements.{recursion_from_All}
use Rattle.std.proofs.lemmas.List.Sorted.{IsPermutation-reverse, IsPermutation-trans, ranks_by, sorted_far}
use Rattle.beam_values.specs.declared.value.Value.{Value}
use Rattle.combine_lift.specs.Merging.{Merges}
use Rattle.combine_lift.specs.Tables.{Added, Table, accs_of, held_in, parts_of, row_cmp, OneStandsFor, StandsFor}
use Rattle.combine_lift.specs.declared.row.Row.{Row}
use Rattle.combine_lift.proofs.Joined.{Ascends, joined_stand, merged_rows}
use Rattle.combine_lift.proofs.Pointwise.{parts_append, stands_permuted}
use Rattle.combine_lift.proofs.RowOrder.{row_total}

-- a list that is sorted the other way round is sorted in reverse
pub reverse_sorted : {X : Type 0} (R : X → X → Ordering) (xs : List X) → IsSorted (λ x y. R y x) xs → IsSorted R (reverse xs)
reverse_sorted R xs up k d low within =
    let size : length (reverse xs) ≡ length xs = length-reverse xs in
    let next : (length xs - 1) - k ≡ ((length xs - 1) - (k + 1)) + 1 = omega (arith, size) in
    ap (λ x. is_lt (R x (get_or (reverse xs) k d))) (get_or-reverse xs (k + 1) d (omega (arith, size)))
    ∙ ap (λ x. is_lt (R (get_or xs ((length xs - 1) - (k + 1)) d) x)) (get_or-reverse xs k d (omega (arith, size)) ∙ ap (λ n. get_or xs n d) next)
    ∙ up ((length xs - 1) - (k + 1)) d (omega arith) (omega (arith, size))

pub ascends : {X : Type 0} (R : X → X → Ordering) → IsTotalOrder R → (xs : List X) → IsSorted R xs → Ascends R xs
ascends R total [] up = tt
ascends {X} R total (x ∷ xs) up = (
  recursion_from_All (λ y. is_lt (R y x) ≡ false) xs
      (λ k d within. sorted_far (λ a b. is_lt (R a b)) (ranks_by total (λ (y : X). y)) (x ∷ xs) up 0 (suc k) d (omega arith) (omega arith)),
  ascends R total xs (λ k d low within.
      subst (λ n. is_lt (R (get_or (x ∷ xs) n d) (get_or xs k d)) ≡ false) (one_more k) (up (suc k) d (omega arith) (omega arith))),
)
  where
    one_more : (k : ℕ) → suc k + 1 ≡ suc (k + 1)
    one_more k = omega arith

pub absorbed : {A : Type 0} (stands : A → List Value → Type 0) (held : A → ℕ) (a b new : Table A) (rows others : List (Row A)) (added more : List Added)
    → IsPermutation a.rows rows → IsPermutation b.rows others → IsSorted row_cmp (reverse rows) → IsSorted row_cmp (reverse others)
    → Merges stands held (reverse rows) (reverse others) new.rows → new.parts ≡ a.parts + b.parts
    → StandsFor stands a added → StandsFor stands b more → StandsFor stands new (added ++ more)
absorbed stands held a b new rows others added more moved also up upward merges parts standing other = record {
  each = λ key span.
      subst (OneStandsFor stands (accs_of key span new.rows)) (sym (parts_append key span added more))
      (joined_stand stands held (accs_of key span (reverse rows)) (accs_of key span (reverse others)) (accs_of key span new.rows)
      (parts_of key span added) (parts_of key span more)
      (stands_permuted stands key span (parts_of key span added) a.rows (reverse rows) (IsPermutation-trans a.rows rows (reverse rows) moved (IsPermutation-reverse rows)) (standing.each key span))
      (stands_permuted stands key span (parts_of key span more) b.rows (reverse others) (IsPermutation-trans b.rows others (reverse others) also (IsPermutation-reverse others)) (other.each key span))
      (merged_rows stands held key span merges (ascends row_cmp row_total (reverse rows) up) (ascends row_cmp row_total (reverse others) upward)));
  parts = omega (arith, length-append added more, standing.parts, other.parts);
}

pub joined_tables : {A : Type 0} (stands : A → List Value → Type 0) (held : A → ℕ) (a b : Table A) (rows others falling also merged : List (Row A)) (parts more_parts : ℕ)
    → record { rows = rows; parts = parts } ≡ a → record { rows = others; parts = more_parts } ≡ b
    → IsPermutation rows falling → IsPermutation others also → IsSorted row_cmp (reverse falling) → IsSorted row_cmp (reverse also)
    → Merges stands held (reverse falling) (reverse also) merged → (added more : List Added) → StandsFor stands a added → StandsFor stands b more
    → StandsFor stands (record { rows = merged; parts = parts + more_parts }) (added ++ more)
joined_tables {A} stands held a b rows others falling also merged parts more_parts seen seen_also moved turned up upward merges added more standing other =
    absorbed stands held a b (record { rows = merged; parts = parts + more_parts }) falling also added more
    (subst (λ (t : Table A). IsPermutation t.rows falling) seen moved) (subst (λ (t : Table A). IsPermutation t.rows also) seen_also turned) up upward merges
    (omega (arith, ap (λ (t : Table A). t.parts) seen, ap (λ (t : Table A). t.parts) seen_also)) standing other

-- rows in another order stand for the same
pub settled : {A : Type 0} (stands : A → List Value → Type 0) (old : Table A) (rows new : List (Row A)) (parts : ℕ) → record { rows = rows; parts = parts } ≡ old
    → IsPermutation rows new → (added : List Added) → StandsFor stands old added → StandsFor stands (record { rows = new; parts = parts }) added
settled {A} stands old rows new parts seen moved added standing = record {
  each = λ key span.
      stands_permuted stands key span (parts_of key span added) old.rows new (subst (λ (t : Table A). IsPermutation t.rows new) seen moved) (standing.each key span);
  parts = ap (λ (t : Table A). t.parts) seen ∙ standing.parts;
}

-- a table without rows stands for nothing
pub nothing_before : {A : Type 0} (held : A → ℕ) (old : Table A) (rows : List (Row A)) (parts : ℕ) → record { rows = rows; parts = parts } ≡ old
    → parts ≡ held_in held rows → rows ≡ [] → old.parts ≡ 0
nothing_before {A} held old rows parts seen total none = sym (ap (λ (t : Table A). t.parts) seen) ∙ total ∙ ap (held_in held) none

pub joined_to_none : {A : Type 0} (stands : A → List Value → Type 0) (old other : Table A) (rows : List (Row A)) (parts : ℕ) → record { rows = rows; parts = parts } ≡ other
    → old.parts ≡ 0 → (added more : List Added) → StandsFor stands old added → StandsFor stands other more
    → StandsFor stands (record { rows = rows; parts = parts }) (added ++ more)
joined_to_none {A} stands old other rows parts seen nothing added more standing also =
    let now : Table A = record { rows = rows; parts = parts } in
    subst (λ (l : List Added). StandsFor stands now (l ++ more)) (sym (nil_from_length added (sym standing.parts ∙ nothing)))
    (subst (λ (t : Table A). StandsFor stands t more) (sym seen) also)

pub parts_of_none : {A : Type 0} (old other : Table A) (rows : List (Row A)) (parts : ℕ) → record { rows = rows; parts = parts } ≡ other
    → old.parts ≡ 0 → parts ≡ old.parts + other.parts
parts_of_none {A} old other rows parts seen nothing = omega (arith, ap (λ (t : Table A). t.parts) seen, nothing)

pub none_stand : {A : Type 0} (stands : A → List Value → Type 0) (rows : List (Row A)) → rows ≡ [] → StandsFor stands (record { rows = rows; parts = 0 }) []
none_stand {A} stands rows none = record {
  each = λ key span. subst (λ (l : List (Row A)). OneStandsFor stands (accs_of key span l) []) (sym none) refl;
  parts = refl;
}
