use Rattle.combine_plan.proofs.folding.fold_bundle.Given as goal

abbrev pub ghost-work_bundle : goal.ghost-work_bundle
ghost-work_bundle g a = g.setting
