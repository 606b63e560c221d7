use Rattle.std.proofs.Common.{take}
use Rattle.std.specs.List.{All}
use Rattle.beam_values.specs.declared.piece.Piece.{Piece}
use Rattle.split_core.specs.Partition.{IsListed}
use Rattle.piece_checks.proofs.listed.are_pieces_listed.Given as goal

abbrev pub invariant-loop-piece : goal.invariant-loop-piece
invariant-loop-piece l = All (λ (piece : Piece). IsListed l.files piece.node piece.item) (take l.piece-index l.pieces)
