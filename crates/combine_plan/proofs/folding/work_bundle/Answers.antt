use mir.Syntax.{of_param}
use Rattle.std.proofs.Common.{Some, Option, ℕ, rules, sym, ap, subst}
use Rattle.std.proofs.lemmas.Result.{on_ok_weaker}
use Rattle.bundle_commit.specs.declared.job.Job.TheVariants as job
use Rattle.combine_plan.specs.Owning.{IsFromStart}
use Rattle.combine_plan.proofs.Owned.{onward}
use Rattle.combine_plan.proofs.folding.work_bundle.Goals as goal

pub work_job-requires : goal.work_job-requires
work_job-requires g c κs within =
    let r = c.requires.1.1.1.1 in
    let piece = c.args.own.now.piece in
    let fresh = r.1.0 in (
      search rules,
      (
        search rules,
        (
          search rules,
          (
            search rules,
            (
              record { owned = c.requires.1.1.0.owned; leaving = λ k. c.requires.1.1.0.leaving (λ _. k (of_param 1)) },
              (
                record { owned = c.requires.1.1.1.0.owned; leaving = λ k. c.requires.1.1.1.0.leaving (λ _. k (of_param 2)) },
                (
                  subst (IsFromStart piece.range.from) (sym fresh) tt,
                  (
                    ap (λ (attempted : Option ℕ). Some (record { job = job.Span piece; attempted = attempted })) fresh,
                    ((λ some. r.1.1.1.0), (r.0, (r.1.1.1.1.0, (r.1.1.1.1.1.0, r.1.1.1.1.1.1.0)))),
                  ),
                ),
              ),
            ),
          ),
        ),
      ),
    )

pub returns-clause-onward : goal.returns-clause-onward
returns-clause-onward g c =
    let r = c.requires.1.1.1.1 in
    let later = c.work_job.new.pass in
    on_ok_weaker c.work_job.result (onward c.args.own.now.piece later.piece later.attempted c.work_job.ensures.claims r.1.1.1.1.1.1.1 r.1.1.0 c.work_job.ensures.own) c.work_job.ensures.goes_on
