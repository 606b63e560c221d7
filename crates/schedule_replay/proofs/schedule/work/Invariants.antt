use Rattle.schedule_replay.proofs.schedule.work.Given as goal

abbrev pub ghost-take : goal.ghost-take
ghost-take g a = g.base

abbrev pub ghost-claim : goal.ghost-claim
ghost-claim g a = g.base

abbrev pub ghost-run : goal.ghost-run
ghost-run g a = g.base

abbrev pub ghost-split : goal.ghost-split
ghost-split g a = g.base

abbrev pub ghost-commit : goal.ghost-commit
ghost-commit g a = g.base

abbrev pub ghost-fail : goal.ghost-fail
ghost-fail g a = g.base

abbrev pub ghost-drain : goal.ghost-drain
ghost-drain g a = g.base
