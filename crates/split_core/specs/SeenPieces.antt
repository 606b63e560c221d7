-- What contracts see of the pending pieces.
use Rattle.std.specs.Prelude.{ℕ, ◌+◌, ◌≤◌, List, length, reverse}
use Rattle.beam_values.specs.declared.piece.Piece.{Piece}
use Rattle.split_core.specs.Order.{IsAscending}

-- the pieces in the order in which they are taken, and how many more can come before memory is asked for
pub record SeenPieces : Type 0 where
  pub pending : List Piece
  pub room : ℕ

-- the items are the pending pieces with the first one last, and as many places are kept as the room and the items need
pub record IsKept (items : List Piece) (room places : ℕ) : Type 0 where
  pub ascending : IsAscending (reverse items)
  pub within : length items ≤ places
  pub kept : places ≤ length items + room
