use Rattle.std.proofs.Common.{◌∙◌, sym}
use Rattle.group_cells.proofs.GroupPlans.{none_merging}
use Rattle.group_cells.proofs.groups.advance.merging_of.Goals as goal

pub returns-then-not-merges : goal.returns-then-not-merges
returns-then-not-merges c = c.new-later.ensures ∙ sym (none_merging c.args.plan.now c.args.before.now (c.merges.ensures c.if-not-merges.true) c.args.arrivals.now)
