use Rattle.std.proofs.Common.{arith, FitsSigned, w64}
use Rattle.std.proofs.lemmas.Int.{to_z-of_z}
use Rattle.plan_drawing.proofs.lines.push_estimator.Goals as goal

pub returns-in-Lag : goal.returns-in-Lag
returns-in-Lag c =
    let fits : FitsSigned w64 c.in-Lag.delay = record { sfits = omega arith } in
    let added = simp to_z-of_z at c.push_span_line.ensures in
    rw c.in-Lag.is added

pub returns-in-Declared : goal.returns-in-Declared
returns-in-Declared c = rw c.in-Declared.is c.push_line-in-Declared.ensures
