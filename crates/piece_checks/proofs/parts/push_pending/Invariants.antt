use Rattle.std.proofs.Common.{◌≡◌, ◌++◌, take, flat_map}
use Rattle.piece_checks.specs.Parts.{parts_of_piece}
use Rattle.piece_checks.proofs.parts.push_pending.Given as goal

abbrev pub invariant-loop-piece : goal.invariant-loop-piece
invariant-loop-piece l = l.parts.items ≡ l.fn.parts.items ++ flat_map parts_of_piece (take l.piece-index l.pending)
