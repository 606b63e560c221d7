use Rattle.schedule_replay.proofs.stand.Stand.work_first.Given as goal

abbrev pub ghost-claim_all : goal.ghost-claim_all
ghost-claim_all g a = g.base

abbrev pub ghost-run : goal.ghost-run
ghost-run g a = g.base
