use Rattle.std.proofs.Common.{◌≡◌, ◌++◌, map}
use Rattle.std.specs.Borrow.{Bor}
use Rattle.std.specs.List.{flat_map}
use Rattle.beam_values.specs.declared.piece.Piece.{Piece}
use Rattle.schedule_replay.specs.Replays.{pending_line}
use Rattle.schedule_replay.proofs.ending.push_pending.Given as goal

abbrev pub invariant-loop-piece : goal.invariant-loop-piece
invariant-loop-piece l = l.out ≡ l.fn.out ++ flat_map pending_line (map (λ (piece : Bor Piece). piece.now) l.yielded)
