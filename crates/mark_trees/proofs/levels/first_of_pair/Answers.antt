use Rattle.std.proofs.Common.{sym, ◌∙◌}
use Rattle.mark_trees.proofs.Halving.{pair_no, pair_yes}
use Rattle.mark_trees.proofs.levels.first_of_pair.Goals as goal

pub returns-then-is_due : goal.returns-then-is_due
returns-then-is_due c =
    pair_yes c.args.bound c.args.level.now c.args.at c.index-level-at.result c.requires.over c.index-level-at.is (sym c.is_due.ensures ∙ c.if-is_due.true)

pub returns-else-is_due : goal.returns-else-is_due
returns-else-is_due c =
    pair_no c.args.bound c.args.level.now c.args.at c.index-level-at.result c.requires.over c.index-level-at.is (sym c.is_due.ensures ∙ c.if-is_due.false)
