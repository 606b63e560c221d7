use Rattle.std.proofs.Common.{arith, FitsSigned, w64}
use Rattle.std.proofs.lemmas.Int.{to_z-of_z}
use Rattle.std.proofs.lemmas.Result.{on_ok_weaker}
use Rattle.plan_drawing.proofs.Joined.{then_text}
use Rattle.plan_drawing.proofs.lines.push_strategy.Goals as goal

pub returns-in_ok-push_span_line-in-Sliding : goal.returns-in_ok-push_span_line-in-Sliding
returns-in_ok-push_span_line-in-Sliding c =
    let size_fits : FitsSigned w64 c.in-Sliding.size = record { sfits = omega arith } in
    let period_fits : FitsSigned w64 c.in-Sliding.period = record { sfits = omega arith } in
    let size = simp to_z-of_z at c.in_ok-push_span_line-in-Sliding.ensures in
    let period = simp to_z-of_z at c.push_span.ensures in
    rw c.in-Sliding.is
    (on_ok_weaker c.push_span.result
    (then_text c.args.out.now c.push_span_line-in-Sliding.new.out c.push_span.new.out _ _ size)
    period)

pub returns-in-Sessions : goal.returns-in-Sessions
returns-in-Sessions c =
    let fits : FitsSigned w64 c.in-Sessions.gap = record { sfits = omega arith } in
    let added = simp to_z-of_z at c.push_span_line-in-Sessions.ensures in
    rw c.in-Sessions.is added
