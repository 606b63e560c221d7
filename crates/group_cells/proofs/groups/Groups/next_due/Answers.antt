use Rattle.std.proofs.Common.{subst}
use Rattle.group_cells.specs.Commits.{SeenGroups}
use Rattle.group_cells.specs.Looking.{IsNextDue}
use Rattle.group_cells.proofs.groups.Groups.next_due.Goals as goal

pub returns : goal.returns
returns c =
    subst (λ (g : SeenGroups). IsNextDue g.plan c.args.node g.cells c.next.result) c.self.view_is
    (c.next.ensures c.self.inside.plan c.self.inside.tracked.cells.items c.self.invariant.rest.due c.self.invariant.rest.moved)
