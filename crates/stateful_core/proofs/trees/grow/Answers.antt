use Rattle.stateful_core.proofs.TreeSteps.{longer_keep, longer_place}
use Rattle.stateful_core.proofs.trees.grow.Goals as goal

pub returns-clause-kept : goal.returns-clause-kept
returns-clause-kept c = λ hole cells h. longer_keep c.add.new.trees.items c.grow_each.new.trees.items hole cells c.grow_each.ensures.longer (c.add.ensures.kept hole cells h)

pub returns-clause-others : goal.returns-clause-others
returns-clause-others c = λ n i h. longer_place c.add.new.trees.items c.grow_each.new.trees.items n i c.grow_each.ensures.longer (c.add.ensures.others n i h)
