use Rattle.std.proofs.Common.{arith, sym, ◌∙◌}
use Rattle.mark_trees.proofs.Halving.{put_is_push, put_is_set}
use Rattle.mark_trees.proofs.levels.put.Goals as goal

pub returns-then-at-len-clause-items : goal.returns-then-at-len-clause-items
returns-then-at-len-clause-items c = sym (put_is_set c.args.level.now.items c.args.at c.args.marks (omega arith))

pub returns-clause-items : goal.returns-clause-items
returns-clause-items c = c.push_reserved.ensures.items ∙ sym (put_is_push c.args.level.now.items c.args.at c.args.marks (omega arith))
