-- The front of pending pieces.
use Rattle.std.specs.Prelude.{Bool, false, List, [], ◌∷◌}
use Rattle.beam_values.specs.declared.piece.Piece.{Piece}
use Rattle.split_core.specs.Order.{is_lower}

-- there is a first piece, and it is lower than this one
abbrev pub first_is_lower : Piece → List Piece → Bool
first_is_lower piece [] = false
first_is_lower piece (first ∷ others) = is_lower first piece
