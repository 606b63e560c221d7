use Rattle.schedule_replay.proofs.stand.Stand.run.Given as goal

abbrev pub ghost-run : goal.ghost-run
ghost-run g a = g.base
