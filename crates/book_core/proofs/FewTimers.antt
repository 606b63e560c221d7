-- At most one timer of a key cell is set, so what is left of key cells is bounded by their elements.
use Rattle.std.proofs.Common.{◌≡◌, ◌+◌, ◌*◌, ◌≤◌, Bool, true, false, cond, List, [], ◌∷◌, length, arith}
use Rattle.std.specs.List.{All, filter, sum_by}
use Rattle.std.proofs.lemmas.List.Elements.{All-head, All-tail}
use Rattle.std.proofs.lemmas.List.Sums.{sum_by-cons}
use Rattle.beam_values.specs.declared.marks.CommitMarks.{CommitMarks}
use Rattle.beam_values.specs.declared.plan.Plan.{Plan}
use Rattle.stateful_core.specs.Cells.{KeyCell}
use Rattle.stateful_core.specs.Facts.{IsCellSane}
use Rattle.stateful_core.specs.Lasting.{left_of}
use Rattle.stateful_core.proofs.OfSane.{cell_left}
use Rattle.book_core.specs.Book.{waiting_in}

pub cells_most : (plan : Plan) (commits : List CommitMarks) (p : KeyCell → Bool) (cells : List KeyCell) → All (IsCellSane plan commits) cells
    → sum_by left_of (filter p cells) ≤ 9 * waiting_in cells + length cells
cells_most plan commits p [] h = omega arith
cells_most plan commits p (cell ∷ cells) h = by (p cell) (cells_most plan commits p cells (All-tail (IsCellSane plan commits) cell cells h))
  where
    many : waiting_in (cell ∷ cells) ≡ length cell.waiting + waiting_in cells
    many = sum_by-cons (λ (c : KeyCell). length c.waiting) cell cells

    by : (t : Bool) → sum_by left_of (filter p cells) ≤ 9 * waiting_in cells + length cells
        → sum_by left_of (cond t (cell ∷ filter p cells) (filter p cells)) ≤ 9 * waiting_in (cell ∷ cells) + length (cell ∷ cells)
    by true few = omega (arith, few, many, sum_by-cons left_of cell (filter p cells), cell_left plan commits cell (All-head (IsCellSane plan commits) cell cells h))
    by false few = omega (arith, few, many)
