use Rattle.std.proofs.Common.{◌≡◌, ◌∙◌, arith, length}
use Rattle.group_cells.proofs.GroupPlans.{all_rules}
use Rattle.group_cells.proofs.groups.group_plan.all_group_rules.Goals as goal

pub returns : goal.returns
returns c =
    let all : c.loop-node.node ≡ length c.args.plan.now.nodes = omega (arith, c.loop-node.auto.node-end, c.loop-node-test.false, c.len-node-end.ensures) in
    all_rules c.args.plan.now c.loop-node.groups.items (c.loop-node.invariant.sized ∙ all) (λ k below. c.loop-node.invariant.each k (omega (arith, below, all)))
