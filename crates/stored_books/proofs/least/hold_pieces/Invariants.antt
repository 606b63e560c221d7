use Rattle.std.proofs.Common.{take, map}
use Rattle.beam_model.specs.Holds.{piece_hold}
use Rattle.stored_books.specs.Held.{AreHeldOn}
use Rattle.stored_books.proofs.least.hold_pieces.Given as goal

abbrev pub invariant-loop-piece : goal.invariant-loop-piece
invariant-loop-piece l = AreHeldOn (map (piece_hold l.plan) (take l.piece-index l.pieces)) l.fn.least l.least
