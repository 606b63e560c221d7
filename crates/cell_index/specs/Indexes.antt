-- How cells are found: an ordered map from node, window and key to a place among the cells, and guesses that spare a look-up.
use Rattle.std.specs.Prelude.{◌≡◌, ℕ, ◌<◌, List, Some}
use Rattle.std.specs.BTreeMap as tree
use Rattle.std.specs.List.{All}
use Rattle.std.specs.Ordering.{on, then_cmp, nat_cmp}
use Rattle.std.specs.declared.cmp.Ordering.{Ordering}
use Rattle.beam_values.specs.Cells.{span_cmp}
use Rattle.beam_values.specs.Orders.{value_cmp}
use Rattle.beam_values.specs.declared.cell.Cell.{Cell}
use Rattle.cell_index.specs.Leads.{lead_of}
use Rattle.cell_index.specs.Places.{place_of}
use Rattle.cell_index.specs.declared.index.CellIndex.{CellIndex}
use Rattle.cell_index.specs.declared.index_key.CellKey.{CellKey}
use Rattle.cell_index.specs.declared.guesses.Guess.{Guess}

-- by node, window and the bytes that spell the key
abbrev pub place_cmp : CellKey → CellKey → Ordering
place_cmp = then_cmp (on (λ k. k.node) nat_cmp) (then_cmp (on (λ k. k.span) span_cmp) (on (λ k. k.key) value_cmp))

-- by their leads first, which differ for nearly all of them
abbrev pub cell_key_cmp : CellKey → CellKey → Ordering
cell_key_cmp = then_cmp (on (λ k. lead_of k.key k.span) nat_cmp) place_cmp

-- a place that is guessed is that of some node, key and window, of whichever hash
abbrev pub IsOfKey : tree.BTreeMap CellKey ℕ → Guess → Type 0
IsOfKey places guess = 0 < guess.hash → (q : CellKey) × (tree.get cell_key_cmp places q ≡ Some guess.place)

-- the map has the place of each cell that there is, and nothing else, and no other place is guessed
pub record IsIndexOf (index : CellIndex) (cells : List Cell) : Type 0 where
  pub finds : (q : CellKey) → tree.get cell_key_cmp index.places q ≡ place_of q.node q.key q.span cells
  pub guesses : All (IsOfKey index.places) index.guesses.slots.items

-- the place is that of the cell of some node, key and window
abbrev pub IsFoundPlace : List Cell → ℕ → Type 0
IsFoundPlace cells place = (q : CellKey) × (place_of q.node q.key q.span cells ≡ Some place)
