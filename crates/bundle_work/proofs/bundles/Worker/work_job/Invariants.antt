use Rattle.bundle_work.proofs.bundles.Worker.work_job.Given as goal

abbrev pub ghost-work_in_bundle : goal.ghost-work_in_bundle
ghost-work_in_bundle g a = g.setting
