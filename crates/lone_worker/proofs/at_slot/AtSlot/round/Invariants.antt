use Rattle.lone_worker.proofs.at_slot.AtSlot.round.Given as goal

abbrev pub ghost-do_job : goal.ghost-do_job
ghost-do_job g a = g.setting
