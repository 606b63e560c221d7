use Rattle.std.proofs.Common.{◌≡◌, ◌-◌, drop, length}
use Rattle.book_core.proofs.restoring.restore_pieces.Given as goal

abbrev pub invariant-loop-behind : goal.invariant-loop-behind
invariant-loop-behind l = l.pieces.pending ≡ drop (length l.pending - l.behind) l.pending
