use Rattle.schedule_replay.proofs.Ends.{ends_finished, ends_there}
use Rattle.schedule_replay.proofs.ending.push_ending.Goals as goal

pub returns-then-branch : goal.returns-then-branch
returns-then-branch c =
    ends_finished c.args.stand.book c.push_stand.new.stand.book c.args.out.now c.push_stand.new.out c.push_outcome.new.out c.in_ok-push_stand.ensures.ranges
    (c.in_ok-push_stand.ensures.finished c.if-branch.true) c.push_outcome.result c.push_outcome.ensures

pub returns-else-branch : goal.returns-else-branch
returns-else-branch c = ends_there c.args.stand.book c.args.out.now c.push_stand.new.out c.in_ok-push_stand.ensures.ranges (c.in_ok-push_stand.ensures.unfinished c.if-branch.false)
