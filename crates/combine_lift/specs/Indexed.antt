-- Rows as the index of cells sees them: each a cell without entries of node 0.
use Rattle.std.specs.Prelude.{◌≡◌, ℕ, Bool, true, false, List, [], map, None}
use Rattle.beam_values.specs.declared.cell.Cell.{Cell}
use Rattle.cell_index.specs.Indexes.{IsIndexOf}
use Rattle.cell_index.specs.declared.index.CellIndex.{CellIndex}
use Rattle.combine_lift.specs.Tables.{held_in}
use Rattle.combine_lift.specs.declared.row.Row.{Row}

abbrev pub cell_of : {A : Type 0} → Row A → Cell
cell_of row = record { node = 0; key = row.key; span = row.span; entries = []; next_index = 0; on_time = false; merged_into = None }

abbrev pub cells_of : {A : Type 0} → List (Row A) → List Cell
cells_of rows = map cell_of rows

-- what a table keeps true: where it says so, the index is of its rows, and the parts are those that came to rows
pub record IsKept {A : Type 0} (held : A → ℕ) (rows : List (Row A)) (index : CellIndex) (indexed : Bool) (parts : ℕ) : Type 0 where
  pub places : indexed ≡ true → IsIndexOf index (cells_of rows)
  pub total : parts ≡ held_in held rows
