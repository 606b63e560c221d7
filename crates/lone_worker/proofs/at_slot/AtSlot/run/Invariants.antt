use Rattle.lone_worker.proofs.at_slot.AtSlot.run.Given as goal

abbrev pub ghost-work_job : goal.ghost-work_job
ghost-work_job g a = g.base.setting
