-- Cells that are written.
use Rattle.std.proofs.Common.{◌≡◌, ℤ, List, [], ◌∷◌, ◌++◌, refl}
use Rattle.std.specs.Prelude.{slice_set, unwrap_or}
use Rattle.beam_values.specs.States.{cell_of, number_in, values_in}
use Rattle.beam_values.specs.declared.state_cell.StateCell.{StateCell}
use Rattle.beam_values.specs.declared.state_cell.StateCell.TheVariants.{Unset, Number, Bag}
use Rattle.beam_values.specs.declared.value.Value.{Value}

-- a bag that is cleared and then gets a value has this one
pub one_value : (cells : List StateCell) (v : Value)
    → slice_set (slice_set cells 0 Unset) 0 (Bag (values_in (cell_of (slice_set cells 0 Unset) 0) ++ v ∷ [])) ≡ slice_set cells 0 (Bag (v ∷ []))
one_value [] v = refl
one_value (cell ∷ cells) v = refl

-- the number that was written is read, or there is no such cell
pub number_put : (cells : List StateCell) (n : ℤ) → unwrap_or (number_in (cell_of (slice_set cells 1 (Number n)) 1)) n ≡ n
number_put [] n = refl
number_put (first ∷ []) n = refl
number_put (first ∷ second ∷ cells) n = refl
