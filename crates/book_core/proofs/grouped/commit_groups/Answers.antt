use Rattle.watermarks.specs.Holds.{hold_at}
use Rattle.book_core.proofs.NoGroups.{no_group_at, quiet_commit, quiet_rounds}
use Rattle.book_core.proofs.grouped.commit_groups.Goals as goal

pub returns-clause-rounds : goal.returns-clause-rounds
returns-clause-rounds c =
    quiet_rounds c.args.plan.now (no_group_at c.args.plan.now (c.has_groups.ensures.nodes c.if-has_groups.false)) c.args.marks.now c.stage_marks.new.marks c.args.commit c.args.arrivals.now
    c.args.groups.now.cells c.new.result (c.has_groups.ensures.cells c.if-has_groups.false) c.new.ensures

pub returns-clause-committed : goal.returns-clause-committed
returns-clause-committed c =
    quiet_commit c.args.plan.now (no_group_at c.args.plan.now (c.has_groups.ensures.nodes c.if-has_groups.false)) c.args.marks.now c.stage_marks.new.marks c.args.commit (hold_at c.args.holds.now)
    c.args.arrivals.now c.args.groups.now c.new.result (c.has_groups.ensures.cells c.if-has_groups.false) c.new.ensures c.stage_marks.ensures
