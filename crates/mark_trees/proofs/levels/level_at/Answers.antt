use Rattle.std.proofs.Common.{◌∙◌}
use Rattle.mark_trees.proofs.PutUp.{lowest_at}
use Rattle.mark_trees.proofs.levels.level_at.Goals as goal

pub returns : goal.returns
returns c = c.as_slice.ensures.value ∙ lowest_at c.args.levels.now.items c.args.k c.index.result.now c.requires c.index.ensures
