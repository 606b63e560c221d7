use Rattle.std.proofs.Common.{refl}
use Rattle.std.proofs.lemmas.Result.{on_ok_weaker}
use Rattle.group_cells.specs.Placing.{fresh_cell}
use Rattle.group_cells.proofs.DueKeys.{moments_added}
use Rattle.group_cells.proofs.groups.due.DueCells.expect_cell.Goals as goal

pub returns-clause-ok : goal.returns-clause-ok
returns-clause-ok c =
    on_ok_weaker c.enter.result
    (λ entered cells key entries h end counted.
    moments_added c.args.plan.now c.args.self.now c.enter.new.self cells c.args.node c.args.place (fresh_cell c.args.node key c.args.span entries) c.fresh_moment.result c.enter.ensures.kept h end
    (c.fresh_moment.ensures key entries counted) refl entered)
    c.enter.ensures.entered
