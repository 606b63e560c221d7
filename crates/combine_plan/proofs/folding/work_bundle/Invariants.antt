use Rattle.combine_plan.proofs.folding.work_bundle.Given as goal

abbrev pub ghost-work_job : goal.ghost-work_job
ghost-work_job g a = g.setting
