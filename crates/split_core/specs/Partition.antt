-- Where the offsets of the source items are: each lies in one pending piece or in one range that is out (Splittable DoFn: restrictions partition their element).
use Rattle.std.specs.Prelude.{◌≡◌, ℕ, ◌+◌, ◌<◌, ◌&&◌, ◌==◌, List, All, count_by}
use Rattle.beam_values.specs.Cover.{Place, times_at, times_done, times_pending, times_listed}
use Rattle.beam_values.specs.declared.piece.Done.{Done}
use Rattle.beam_values.specs.declared.piece.FileLen.{FileLen}
use Rattle.beam_values.specs.declared.piece.Piece.{Piece}

-- a length is listed for this item of this node
abbrev pub IsListed : List FileLen → ℕ → ℕ → Type 0
IsListed items node item = 0 < count_by (λ file. file.node == node && file.item == item) items

-- a range of this item of this node is out
abbrev pub IsOut : List Done → ℕ → ℕ → Type 0
IsOut out node item = 0 < count_by (λ part. part.node == node && part.item == item) out

-- the range of a piece, without how its work went
abbrev pub range_of : Piece → Done
range_of piece = record { node = piece.node; item = piece.item; range = piece.range }

-- pending pieces and the ranges that are out hold each offset of each listed item as often as it is listed, and no other
pub record IsPartition (items : List FileLen) (pending : List Piece) (out : List Done) : Type 0 where
  pub pending_listed : All (λ piece. IsListed items piece.node piece.item) pending
  pub out_listed : All (λ part. IsListed items part.node part.item) out
  pub times : (place : Place) → times_pending pending place + times_done out place ≡ times_listed items place

-- the ranges that are out hold each place as often as the rest and the piece's range together, and neither has another item
pub record IsCutOut (out : List Done) (piece : Piece) (rest : List Done) : Type 0 where
  pub piece_out : IsOut out piece.node piece.item
  pub rest_out : All (λ part. IsOut out part.node part.item) rest
  pub times : (place : Place) → times_done out place ≡ times_done rest place + times_at piece.node piece.item piece.range place
