-- An arrival touches the cells of its own node and key alone, and among these it goes where the rounds put it.
use Rattle.std.proofs.Common.{◌≡◌, ℕ, Bool, true, false, cond, List, [], ◌∷◌, refl, sym, ap, ◌∙◌}
use Rattle.std.specs.List.{filter}
use Rattle.beam_values.specs.Intervals.{Interval}
use Rattle.beam_values.specs.Spans.{same_span}
use Rattle.beam_values.specs.declared.cell.Cell.{Cell}
use Rattle.beam_values.specs.declared.cell.Entry.{Entry}
use Rattle.beam_values.specs.declared.value.Value.{Value}
use Rattle.beam_model.specs.Panes.{is_cell_at_key}
use Rattle.cell_index.specs.Places.{is_cell_of}
use Rattle.group_cells.specs.Arrivals.{arrived}
use Rattle.group_cells.specs.Placing.{with_entry, fresh_cell}
use Rattle.group_cells.proofs.Alike.{and_parts, same_group, group_through}

-- the cells of other nodes and keys stay
pub arrived_elsewhere : (n : ℕ) (k : Value) (node : ℕ) (key : Value) (span : Interval) (entry : Entry) → same_group n k node key ≡ false
    → (cells : List Cell) → filter (is_cell_at_key n k) (arrived node key span entry cells) ≡ filter (is_cell_at_key n k) cells
arrived_elsewhere n k node key span entry away [] =
    ap (λ b. cond {A = List Cell} b (fresh_cell node key span (entry ∷ []) ∷ []) []) away
arrived_elsewhere n k node key span entry away (cell ∷ cells) = by_test (is_cell_of node key span cell) refl (arrived_elsewhere n k node key span entry away cells)
  where
    by_test : (t : Bool) → is_cell_of node key span cell ≡ t
        → (filter (is_cell_at_key n k) (arrived node key span entry cells) ≡ filter (is_cell_at_key n k) cells)
        → filter (is_cell_at_key n k) (cond t (with_entry entry cell ∷ cells) (cell ∷ arrived node key span entry cells)) ≡ filter (is_cell_at_key n k) (cell ∷ cells)
    by_test true e ih =
        let not_here : is_cell_at_key n k cell ≡ false =
        group_through n k node key cell.node cell.key (and_parts (is_cell_at_key node key cell) (same_span cell.span span) e).0 ∙ away in
        ap (λ b. cond b (with_entry entry cell ∷ filter (is_cell_at_key n k) cells) (filter (is_cell_at_key n k) cells)) not_here
        ∙ sym (ap (λ b. cond b (cell ∷ filter (is_cell_at_key n k) cells) (filter (is_cell_at_key n k) cells)) not_here)
    by_test false e ih = ap (λ l. cond (is_cell_at_key n k cell) (cell ∷ l) l) ih

-- and among those of its own it goes as among all
pub arrived_here : (n : ℕ) (k : Value) (node : ℕ) (key : Value) (span : Interval) (entry : Entry) → same_group n k node key ≡ true
    → (cells : List Cell) → filter (is_cell_at_key n k) (arrived node key span entry cells) ≡ arrived node key span entry (filter (is_cell_at_key n k) cells)
arrived_here n k node key span entry here [] =
    ap (λ b. cond {A = List Cell} b (fresh_cell node key span (entry ∷ []) ∷ []) []) here
arrived_here n k node key span entry here (cell ∷ cells) = by_test (is_cell_of node key span cell) refl (arrived_here n k node key span entry here cells)
  where
    stays : (u : Bool) → is_cell_of node key span cell ≡ false
        → cond u (cell ∷ arrived node key span entry (filter (is_cell_at_key n k) cells)) (arrived node key span entry (filter (is_cell_at_key n k) cells))
        ≡ arrived node key span entry (cond u (cell ∷ filter (is_cell_at_key n k) cells) (filter (is_cell_at_key n k) cells))
    stays true e = sym (ap (λ b. cond b (with_entry entry cell ∷ filter (is_cell_at_key n k) cells) (cell ∷ arrived node key span entry (filter (is_cell_at_key n k) cells))) e)
    stays false e = refl

    by_test : (t : Bool) → is_cell_of node key span cell ≡ t
        → (filter (is_cell_at_key n k) (arrived node key span entry cells) ≡ arrived node key span entry (filter (is_cell_at_key n k) cells))
        → filter (is_cell_at_key n k) (cond t (with_entry entry cell ∷ cells) (cell ∷ arrived node key span entry cells))
        ≡ arrived node key span entry (filter (is_cell_at_key n k) (cell ∷ cells))
    by_test true e ih =
        let own : is_cell_at_key n k cell ≡ true =
        group_through n k node key cell.node cell.key (and_parts (is_cell_at_key node key cell) (same_span cell.span span) e).0 ∙ here in
        ap (λ b. cond b (with_entry entry cell ∷ filter (is_cell_at_key n k) cells) (filter (is_cell_at_key n k) cells)) own
        ∙ sym (ap (λ b. cond b (with_entry entry cell ∷ filter (is_cell_at_key n k) cells) (cell ∷ arrived node key span entry (filter (is_cell_at_key n k) cells))) e)
        ∙ sym (ap (λ b. arrived node key span entry (cond b (cell ∷ filter (is_cell_at_key n k) cells) (filter (is_cell_at_key n k) cells))) own)
    by_test false e ih =
        ap (λ l. cond (is_cell_at_key n k cell) (cell ∷ l) l) ih ∙ stays (is_cell_at_key n k cell) e
