-- The order of rows is a total order, in which just the rows of one key and window are equal.
use Rattle.std.proofs.Common.{◌≡◌, ℕ, ℤ, ◌&&◌, Bool, true, false, List, refl, sym, ap, ◌∙◌}
use Rattle.std.specs.Cmp.{IsTotalOrder, tied_then}
use Rattle.std.specs.Ordering.{int_cmp, int_eq, is_eq, ordering_then}
use Rattle.std.specs.Str.{bytes_eq}
use Rattle.std.specs.declared.cmp.Ordering.{Ordering}
use Rattle.std.specs.declared.cmp.Ordering.TheVariants.{Equal}
use Rattle.std.proofs.lemmas.Bool.{false≢true}
use Rattle.std.proofs.lemmas.Bool.Decides.{Decides-int_eq}
use Rattle.std.proofs.lemmas.Cmp.{int_cmp_total, nat_list_cmp_total, on_total, then_total, tied_itself}
use Rattle.std.proofs.lemmas.Map.Text.{is_eq-slice_cmp}
use Rattle.std.proofs.lemmas.Slice.Eq.{bytes_eq-Decides}
use Rattle.beam_values.specs.Cells.{span_cmp}
use Rattle.beam_values.specs.Intervals.{Interval}
use Rattle.beam_values.specs.Orders.{bytes_cmp, value_cmp}
use Rattle.beam_values.specs.Spelling.{spelling}
use Rattle.beam_values.specs.declared.value.Value.{Value}
use Rattle.combine_lift.specs.Tables.{is_row_of, row_cmp}
use Rattle.combine_lift.specs.declared.row.Row.{Row}

span_total : IsTotalOrder span_cmp
span_total = then_total (on_total (λ (span : Interval). span.start) int_cmp_total) (on_total (λ (span : Interval). span.end) int_cmp_total)

pub row_total : {A : Type 0} → IsTotalOrder (row_cmp {A = A})
row_total {A} = then_total (on_total (λ (row : Row A). row.span) span_total) (on_total (λ (row : Row A). spelling row.key) nat_list_cmp_total)

and_parts : (a b : Bool) → (a && b) ≡ true → (a ≡ true) × (b ≡ true)
and_parts true b e = (refl, e)
and_parts false b e = absurd (false≢true e)

-- what is known of a row of a key and window
pub record IsRowOf {A : Type 0} (key : Value) (span : Interval) (row : Row A) : Type 0 where
  pub spelled : spelling row.key ≡ spelling key
  pub starts : row.span.start ≡ span.start
  pub ends : row.span.end ≡ span.end

pub known_row : {A : Type 0} (key : Value) (span : Interval) (row : Row A) → is_row_of key span row ≡ true → IsRowOf key span row
known_row key span row test =
    let parts = and_parts _ _ test in
    let ends = and_parts _ _ parts.1 in
    record {
      spelled = (bytes_eq-Decides (spelling row.key) (spelling key)).0 parts.0;
      starts = (Decides-int_eq row.span.start span.start).0 ends.0;
      ends = (Decides-int_eq row.span.end span.end).0 ends.1;
    }

-- the order of rows by what they are spelled as
abbrev cmp_by : List ℕ → ℤ → ℤ → List ℕ → ℤ → ℤ → Ordering
cmp_by spelled start end other from to = ordering_then (ordering_then (int_cmp start from) (int_cmp end to)) (bytes_cmp spelled other)

-- two rows of one key and window compare with others alike
pub compares_alike : {A : Type 0} (key : Value) (span : Interval) (a b other : Row A) → IsRowOf key span a → IsRowOf key span b → row_cmp a other ≡ row_cmp b other
compares_alike key span a b other one two =
    ap (λ s. cmp_by s a.span.start a.span.end (spelling other.key) other.span.start other.span.end) (one.spelled ∙ sym two.spelled)
    ∙ ap (λ t. cmp_by (spelling b.key) t a.span.end (spelling other.key) other.span.start other.span.end) (one.starts ∙ sym two.starts)
    ∙ ap (λ t. cmp_by (spelling b.key) b.span.start t (spelling other.key) other.span.start other.span.end) (one.ends ∙ sym two.ends)

pub compares_equal : {A : Type 0} (key : Value) (span : Interval) (a b : Row A) → IsRowOf key span a → IsRowOf key span b → row_cmp a b ≡ Equal
compares_equal key span a b one two = compares_alike key span a b b one two ∙ tied_itself row_total b

tied : {A : Type 0} (a b : Row A) → is_eq (row_cmp a b)
    ≡ ((int_eq a.span.start b.span.start && int_eq a.span.end b.span.end) && bytes_eq (spelling a.key) (spelling b.key))
tied a b =
    sym (tied_then (span_cmp a.span b.span) (value_cmp a.key b.key))
    ∙ ap (λ t. t && is_eq (value_cmp a.key b.key)) (sym (tied_then (int_cmp a.span.start b.span.start) (int_cmp a.span.end b.span.end)))
    ∙ ap (λ t. (int_eq a.span.start b.span.start && int_eq a.span.end b.span.end) && t) (is_eq-slice_cmp (spelling a.key) (spelling b.key))

-- rows that compare as equal are of the same keys and windows
pub placed_alike : {A : Type 0} (key : Value) (span : Interval) (a b : Row A) → row_cmp a b ≡ Equal → is_row_of key span a ≡ is_row_of key span b
placed_alike key span a b same =
    let parts = and_parts _ _ (sym (tied a b) ∙ ap is_eq same) in
    let ends = and_parts _ _ parts.0 in
    ap (λ s. bytes_eq s (spelling key) && (int_eq a.span.start span.start && int_eq a.span.end span.end)) ((bytes_eq-Decides (spelling a.key) (spelling b.key)).0 parts.1)
    ∙ ap (λ t. bytes_eq (spelling b.key) (spelling key) && (int_eq t span.start && int_eq a.span.end span.end)) ((Decides-int_eq a.span.start b.span.start).0 ends.0)
    ∙ ap (λ t. bytes_eq (spelling b.key) (spelling key) && (int_eq b.span.start span.start && int_eq t span.end)) ((Decides-int_eq a.span.end b.span.end).0 ends.1)
