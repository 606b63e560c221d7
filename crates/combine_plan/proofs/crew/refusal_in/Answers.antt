use Rattle.std.proofs.Common.{refl, sym, subst}
use Rattle.std.specs.Prelude.{IsOk}
use Rattle.combine_plan.proofs.Seats.{first_at, none_more}
use Rattle.combine_plan.proofs.crew.refusal_in.Goals as goal

pub returns-in-Err : goal.returns-in-Err
returns-in-Err g c = first_at c.args.seats.now c.loop-seat.seat-index c.seat-item.result c.in-Err.refusal c.loop-seat-test.true c.seat-item.is c.in-Err.is c.loop-seat.invariant

pub loop-seat-preserved : goal.loop-seat-preserved
loop-seat-preserved g c =
    none_more c.args.seats.now c.loop-seat.seat-index c.seat-item.result c.loop-seat-test.true c.seat-item.is (subst IsOk (sym c.in_default.is) refl) c.loop-seat.invariant
