use Rattle.lone_worker.proofs.at_slot.AtSlot.do_job.Given as goal

abbrev pub ghost-work_job : goal.ghost-work_job
ghost-work_job g a = g.setting

abbrev pub ghost-commit : goal.ghost-commit
ghost-commit g a = g.setting

abbrev pub ghost-give_back : goal.ghost-give_back
ghost-give_back g a = g.setting
