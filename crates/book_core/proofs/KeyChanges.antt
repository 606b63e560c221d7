-- What a take of a key job and its give back leave of all key cells: how many there are, and what weighs alike before and after.
use Rattle.std.proofs.Common.{◌≡◌, ℕ, List, length, refl, arith}
use Rattle.std.specs.Prelude.{Option, Some, None, slice_get}
use Rattle.std.specs.List.{sum_by}
use Rattle.std.proofs.lemmas.List.{length-set}
use Rattle.stateful_core.specs.Cells.{KeyCell}
use Rattle.stateful_core.specs.Taking.{change, set_by}
use Rattle.book_core.proofs.Slots.{set_weighs}

pub change_many : (f : KeyCell → KeyCell) (at : ℕ) (cells : List KeyCell) → length (change f at cells) ≡ length cells
change_many f at cells = by (slice_get cells at)
  where
    by : (found : Option KeyCell) → length (set_by f found at cells) ≡ length cells
    by None = refl
    by (Some cell) = length-set cells at (f cell)

pub change_weighs : (w : KeyCell → ℕ) (f : KeyCell → KeyCell) → ((cell : KeyCell) → w (f cell) ≡ w cell) → (at : ℕ) (cells : List KeyCell)
    → sum_by w (change f at cells) ≡ sum_by w cells
change_weighs w f same at cells = by (slice_get cells at) refl
  where
    by : (found : Option KeyCell) → slice_get cells at ≡ found → sum_by w (set_by f found at cells) ≡ sum_by w cells
    by None e = refl
    by (Some cell) e = omega (arith, set_weighs w cells at cell (f cell) e, same cell)
