use Rattle.std.proofs.Common.{rules, ◌≡◌}
use Rattle.watermarks.specs.Holds.{hold_at}
use Rattle.plan_cases.proofs.Rising.{rises_from}
use Rattle.plan_cases.proofs.bodies.check.Goals as goal

pub returns-clause-rises : goal.returns-clause-rises
returns-clause-rises c =
    rises_from c.args.graph.now (hold_at c.args.coming.now.holds) c.args.marks.now c.as_slice.result.now c.plan.ensures.checked (search rules) (search rules)
