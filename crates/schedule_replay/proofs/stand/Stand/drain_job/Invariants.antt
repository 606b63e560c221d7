use Rattle.schedule_replay.proofs.stand.Stand.drain_job.Given as goal

abbrev pub ghost-take : goal.ghost-take
ghost-take g a = g.base

abbrev pub ghost-work_first : goal.ghost-work_first
ghost-work_first g a = g.base

abbrev pub ghost-finish : goal.ghost-finish
ghost-finish g a = g.base
