use Rattle.std.proofs.Common.{◌∙◌, rules}
use Rattle.bundle_work.proofs.bundles.Worker.work_job.Goals as goal

pub work_in_bundle-worked-requires : goal.work_in_bundle-worked-requires
work_in_bundle-worked-requires g c κs within =
    let r = c.requires.1.1.1.1.1.1 in
    let strict = λ (known : _). c.start_bundle.ensures.strict ∙ r.1.1.1.1.0 known in
    (search rules, (search rules, (search rules, (search rules, (search rules, (search rules, (r.0, (r.1.0, (r.1.1.0, (r.1.1.1.0, (strict, (r.1.1.1.1.1.0, r.1.1.1.1.1.1))))))))))))
