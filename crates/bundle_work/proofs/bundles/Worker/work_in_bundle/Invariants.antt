use Rattle.bundle_work.proofs.bundles.Worker.work_in_bundle.Given as goal

abbrev pub ghost-work_span : goal.ghost-work_span
ghost-work_span g a = g.setting
