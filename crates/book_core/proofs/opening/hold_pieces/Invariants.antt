use Rattle.std.proofs.Common.{◌≡◌, length, map, take}
use Rattle.beam_model.specs.Holds.{piece_hold}
use Rattle.book_core.specs.Indexes.{AreHeldIn}
use Rattle.book_core.proofs.opening.hold_pieces.Given as goal

abbrev pub invariant-loop-piece : goal.invariant-loop-piece
invariant-loop-piece l = record {
  held : AreHeldIn l.held (map (piece_hold l.plan) (take l.piece-index l.pieces));
  sized : length l.held ≡ length l.plan.nodes;
}
