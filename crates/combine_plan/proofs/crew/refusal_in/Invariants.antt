use Rattle.std.proofs.Common.{take}
use Rattle.std.specs.Prelude.{IsOk}
use Rattle.std.specs.List.{All}
use Rattle.combine_plan.proofs.crew.refusal_in.Given as goal

abbrev pub invariant-loop-seat : goal.invariant-loop-seat
invariant-loop-seat g l = All (λ seat. IsOk seat.folded) (take l.seat-index l.seats)
