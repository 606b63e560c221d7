use Rattle.std.proofs.Common.{◌≡◌, ◌*◌, ◌≤◌, take, sum_by}
use Rattle.piece_checks.proofs.attempts.attempts_of.Given as goal

abbrev pub invariant-loop-piece : goal.invariant-loop-piece
invariant-loop-piece l = (l.attempts ≡ sum_by (λ piece. piece.attempts) (take l.piece-index l.pieces)) × (l.attempts ≤ 4294967295 * l.piece-index)
