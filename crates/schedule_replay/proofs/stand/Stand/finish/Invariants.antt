use Rattle.schedule_replay.proofs.stand.Stand.finish.Given as goal

abbrev pub ghost-fail : goal.ghost-fail
ghost-fail g a = g.base

abbrev pub ghost-commit : goal.ghost-commit
ghost-commit g a = g.base
