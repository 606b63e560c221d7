-- What an entry changes among the cells, seen by place.
use Rattle.std.proofs.Common.{◌≡◌, ℕ, zero, suc, ◌<◌, ◌==◌, ◌&&◌, Bool, true, false, cond, List, [], ◌∷◌, ◌++◌, length, get_or, nat_lt, Option, Some, None, refl, sym, ap, ◌∙◌, arith, subst}
use Rattle.std.proofs.Math.ListN.{set, length-set}
use Rattle.std.specs.List.{position, position_or_len, slice_get, slice_set}
use Rattle.std.specs.Option.{option_map}
use Rattle.std.proofs.lemmas.List.Folds.{position_or_len-set}
use Rattle.std.proofs.lemmas.List.Quantifiers.{position-Some}
use Rattle.std.proofs.lemmas.Option.{get_or_from_slice_get}
use Rattle.beam_values.specs.Grouping.{key_of}
use Rattle.std.specs.Str.{bytes_eq}
use Rattle.beam_values.specs.Intervals.{Interval}
use Rattle.beam_values.specs.Spans.{same_span}
use Rattle.beam_values.specs.Spelling.{spelling}
use Rattle.beam_values.specs.declared.cell.Cell.{Cell}
use Rattle.beam_values.specs.declared.cell.Entry.{Entry}
use Rattle.beam_values.specs.declared.value.Value.{Value}
use Rattle.beam_model.specs.Panes.{GroupRules}
use Rattle.cell_index.specs.Indexes.{IsIndexOf}
use Rattle.cell_index.specs.Places.{is_cell_of, place_of}
use Rattle.cell_index.specs.declared.index.CellIndex.{CellIndex}
use Rattle.cell_index.specs.declared.index_key.CellKey.{CellKey}
use Rattle.cell_index.proofs.Indexing.{position_yes, position_no}
use Rattle.group_cells.specs.Arrivals.{arrived}
use Rattle.group_cells.specs.Plain.{put_at}
use Rattle.group_cells.specs.Placing.{with_entry, fresh_cell}
use Rattle.group_cells.proofs.Undoing.{none_within}

mapped : (o : Option ℕ) (i : ℕ) → option_map suc o ≡ Some i → (j : ℕ) × (o ≡ Some j) × (i ≡ suc j)
mapped None i e = absurd cc
mapped (Some j) i e = (j, refl, cc)

mapped_none : (o : Option ℕ) → option_map suc o ≡ None → o ≡ None
mapped_none None e = refl
mapped_none (Some j) e = absurd cc

-- where its cell has a place, the entry goes there
pub arrived_at : (node : ℕ) (key : Value) (span : Interval) (entry : Entry) (cells : List Cell) (place : ℕ) (cell : Cell)
    → place_of node key span cells ≡ Some place → slice_get cells place ≡ Some cell → arrived node key span entry cells ≡ slice_set cells place (with_entry entry cell)
arrived_at node key span entry [] place cell at found = absurd cc
arrived_at node key span entry (first ∷ cells) place cell at found = by_test (is_cell_of node key span first) refl (λ p. arrived_at node key span entry cells p cell)
  where
    by_place : (p : ℕ) → p ≡ zero → slice_get (first ∷ cells) p ≡ Some cell → with_entry entry first ∷ cells ≡ slice_set (first ∷ cells) p (with_entry entry cell)
    by_place zero e f = let same : first ≡ cell = cc in ap (λ c. with_entry entry c ∷ cells) same
    by_place (suc p) e f = absurd (omega arith)

    by_test : (t : Bool) → is_cell_of node key span first ≡ t
        → ((p : ℕ) → place_of node key span cells ≡ Some p → slice_get cells p ≡ Some cell → arrived node key span entry cells ≡ slice_set cells p (with_entry entry cell))
        → cond t (with_entry entry first ∷ cells) (first ∷ arrived node key span entry cells) ≡ slice_set (first ∷ cells) place (with_entry entry cell)
    by_test true e ih = by_place place (let h = position_yes (is_cell_of node key span) first cells e in cc) found
    by_test false e ih =
        let m = mapped (place_of node key span cells) place (sym (position_no (is_cell_of node key span) first cells e) ∙ at) in
        let f : slice_get (first ∷ cells) (suc m.0) ≡ Some cell = ap (slice_get (first ∷ cells)) (sym m.2) ∙ found in
        ap (λ l. first ∷ l) (ih m.0 m.1 f) ∙ sym (ap (λ p. slice_set (first ∷ cells) p (with_entry entry cell)) m.2)

-- where it has none, a new one stands behind the others
pub arrived_new : (node : ℕ) (key : Value) (span : Interval) (entry : Entry) (cells : List Cell)
    → place_of node key span cells ≡ None → arrived node key span entry cells ≡ cells ++ fresh_cell node key span (entry ∷ []) ∷ []
arrived_new node key span entry [] none = refl
arrived_new node key span entry (first ∷ cells) none = by_test (is_cell_of node key span first) refl (arrived_new node key span entry cells)
  where
    by_test : (t : Bool) → is_cell_of node key span first ≡ t
        → (place_of node key span cells ≡ None → arrived node key span entry cells ≡ cells ++ fresh_cell node key span (entry ∷ []) ∷ [])
        → cond t (with_entry entry first ∷ cells) (first ∷ arrived node key span entry cells) ≡ first ∷ (cells ++ fresh_cell node key span (entry ∷ []) ∷ [])
    by_test true e ih = let h = position_yes (is_cell_of node key span) first cells e in absurd cc
    by_test false e ih = ap (λ l. first ∷ l) (ih (mapped_none (place_of node key span cells) (sym (position_no (is_cell_of node key span) first cells e) ∙ none)))

pub place_within : (node : ℕ) (key : Value) (span : Interval) (cells : List Cell) (place : ℕ) → place_of node key span cells ≡ Some place → place < length cells
place_within node key span [] place at = absurd cc
place_within node key span (cell ∷ cells) place at = (position-Some (is_cell_of node key span) (cell ∷ cells) place cell at).0

pub with_cell : {P : Type 0} (cells : List Cell) (place : ℕ) → place < length cells → ((cell : Cell) → slice_get cells place ≡ Some cell → P) → P
with_cell {P} cells place within f = by_read (slice_get cells place) refl
  where
    by_read : (o : Option Cell) → slice_get cells place ≡ o → P
    by_read None e = absurd (none_within cells place within e)
    by_read (Some cell) e = f cell e

-- the same of what was written at its place
pub taken_at : (node : ℕ) (key : Value) (span : Interval) (entry : Entry) (cells new : List Cell) (place : ℕ) → Some place ≡ place_of node key span cells
    → ((cell : Cell) → slice_get cells place ≡ Some cell → new ≡ slice_set cells place (with_entry entry cell)) → new ≡ arrived node key span entry cells
taken_at node key span entry cells new place at is =
    with_cell cells place (place_within node key span cells place (sym at)) (λ cell found. is cell found ∙ sym (arrived_at node key span entry cells place cell (sym at) found))

-- the index stays where a cell keeps its node, key and window
pub index_set : (index : CellIndex) (cells : List Cell) (place : ℕ) (cell y : Cell) → slice_get cells place ≡ Some cell
    → ((node : ℕ) (key : Value) (span : Interval) → is_cell_of node key span y ≡ is_cell_of node key span cell) → IsIndexOf index cells → IsIndexOf index (slice_set cells place y)
index_set index cells place cell y found alike h = record {
  finds = λ q. h.finds q ∙ sym (written (is_cell_of q.node q.key q.span) (alike q.node q.key q.span));
  guesses = h.guesses;
}
  where
    written : (p : Cell → Bool) → p y ≡ p cell → position p (slice_set cells place y) ≡ position p cells
    written p same =
        let first : position_or_len p (set cells place y) ≡ position_or_len p cells =
        position_or_len-set p cells place y cell (same ∙ ap p (sym (get_or_from_slice_get cells place cell cell found))) in
        ap (λ i. cond (nat_lt i (length (set cells place y))) (Some i) None) first
        ∙ ap (λ n. cond (nat_lt (position_or_len p cells) n) (Some (position_or_len p cells)) None) (length-set cells place y)

pub index_kept : (index : CellIndex) (cells new : List Cell) (place : ℕ) (entry : Entry) → place < length cells
    → ((cell : Cell) → slice_get cells place ≡ Some cell → new ≡ slice_set cells place (with_entry entry cell)) → IsIndexOf index cells → IsIndexOf index new
index_kept index cells new place entry within is h =
    let P : List Cell → Type 0 = λ l. IsIndexOf index l in
    with_cell cells place within (λ cell found. subst P (sym (is cell found)) (index_set index cells place cell (with_entry entry cell) found (λ n k s. refl) h))

pub index_taken : (index after : CellIndex) (key : CellKey) (cells new : List Cell) (place : ℕ) (entry : Entry) → after ≡ index → Some place ≡ place_of key.node key.key key.span cells
    → IsIndexOf index cells → ((cell : Cell) → slice_get cells place ≡ Some cell → new ≡ slice_set cells place (with_entry entry cell)) → IsIndexOf after new
index_taken index after key cells new place entry same at h is =
    let P : CellIndex → Type 0 = λ i. IsIndexOf i new in
    subst P (sym same) (index_kept index cells new place entry (place_within key.node key.key key.span cells place (sym at)) is h)

pub first_taken : (key : CellKey) (node : ℕ) (entry : Entry) (cells new : List Cell) (cell : Cell)
    → key ≡ record { node = node; span = entry.element.span; key = key_of entry.element } → cell ≡ fresh_cell key.node key.key key.span (entry ∷ [])
    → None ≡ place_of key.node key.key key.span cells → new ≡ cells ++ cell ∷ [] → new ≡ arrived node (key_of entry.element) entry.element.span entry cells
first_taken key node entry cells new cell keyed fresh none is =
    is ∙ ap (λ c. cells ++ c ∷ []) (fresh ∙ ap (λ (k : CellKey). fresh_cell k.node k.key k.span (entry ∷ [])) keyed)
    ∙ sym (arrived_new node (key_of entry.element) entry.element.span entry cells (sym (none ∙ ap (λ (k : CellKey). place_of k.node k.key k.span cells) keyed)))

-- the same of the cell that takes it
pub settled_at : (rules : GroupRules) (node : ℕ) (key : Value) (entry : Entry) (cells new : List Cell) (place : ℕ) → place < length cells
    → ((d : Cell) → put_at rules node key entry cells ≡ slice_set cells place (with_entry entry (get_or cells place d)))
    → ((cell : Cell) → slice_get cells place ≡ Some cell → new ≡ slice_set cells place (with_entry entry cell)) → new ≡ put_at rules node key entry cells
settled_at rules node key entry cells new place within put is =
    with_cell cells place within (λ cell found. is cell found ∙ sym (put cell ∙ ap (λ c. set cells place (with_entry entry c)) (get_or_from_slice_get cells place cell cell found)))

pub index_stays : (index after : CellIndex) (cells new : List Cell) (place : ℕ) (entry : Entry) → after ≡ index → place < length cells
    → IsIndexOf index cells → ((cell : Cell) → slice_get cells place ≡ Some cell → new ≡ slice_set cells place (with_entry entry cell)) → IsIndexOf after new
index_stays index after cells new place entry same within h is =
    let P : CellIndex → Type 0 = λ i. IsIndexOf i new in
    subst P (sym same) (index_kept index cells new place entry within is h)

-- and where it becomes another of them
pub index_replaced : (index : CellIndex) (cells new : List Cell) (place : ℕ) (was cell : Cell) → slice_get cells place ≡ Some was
    → (cell.node ≡ was.node) × (cell.key ≡ was.key) × (cell.span ≡ was.span) → new ≡ slice_set cells place cell → IsIndexOf index cells → IsIndexOf index new
index_replaced index cells new place was cell found same is h =
    subst (IsIndexOf index) (sym is)
    (index_set index cells place was cell found
    (λ n k s. (λ i. ((same.0 i) == n && bytes_eq (spelling (same.1 i)) (spelling k)) && same_span (same.2 i) s)) h)
