use Rattle.schedule_replay.proofs.stand.Stand.claim.Given as goal

abbrev pub ghost-claim : goal.ghost-claim
ghost-claim g a = g.base
