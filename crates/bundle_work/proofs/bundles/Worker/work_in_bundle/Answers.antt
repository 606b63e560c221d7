use Rattle.std.proofs.Common.{◌≡◌, rules, Some, None, subst}
use Rattle.bundle_commit.specs.declared.job.Job.{Job}
use Rattle.known_jobs.specs.Calls.{IsJobIn}
use Rattle.bundle_work.proofs.bundles.Worker.work_in_bundle.Goals as goal

pub work_span-requires : goal.work_span-requires
work_span-requires g c κs within =
    let r = c.requires.1.1.1.1.1.1 in
    let taken = subst (λ (j : Job). g.C.Claims.known c.args.claims.now c.args.pass.now ≡ Some (record { job = j; attempted = None })) c.in-Span.is r.1.0 in
    let inside = subst (IsJobIn g.setting) c.in-Span.is r.1.1.0 in
    (search rules, (search rules, (search rules, (search rules, (search rules, (search rules, (r.0, (taken, (r.1.1.1.0, (r.1.1.1.1.0, (r.1.1.1.1.1.0, (inside, r.1.1.1.1.1.1))))))))))))
