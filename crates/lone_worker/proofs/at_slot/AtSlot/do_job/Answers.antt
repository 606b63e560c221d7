use mir.Syntax.{of_param}
use Rattle.std.proofs.Common.{◌≤◌, ◌∙◌, Some, rules, subst, arith}
use Rattle.beam_ports.specs.Observed.{observed_store}
use Rattle.book_core.specs.Left.{rounds_left}
use Rattle.chain_exec.specs.Causes.{observed_shelf}
use Rattle.chain_exec.specs.declared.refusal.ExecRefusal.{ExecRefusal}
use Rattle.known_jobs.specs.Jobs.{known_at}
use Rattle.bundle_work.specs.Bundles.{IsJobRefused}
use Rattle.lone_worker.specs.declared.alone.AloneEnd.TheVariants as ends
use Rattle.lone_worker.proofs.Counted.{fails_from, fails_none, fails_one}
use Rattle.lone_worker.proofs.Leading.{claims_keep, in_after, run_onward}
use Rattle.lone_worker.proofs.Rounds.{ends_from}
use Rattle.lone_worker.proofs.at_slot.AtSlot.do_job.Goals as goal

pub work_job-requires : goal.work_job-requires
work_job-requires g c κs within =
    let r = c.requires.1.1.1.1 in (
      search rules,
      (
        search rules,
        (
          search rules,
          (
            search rules,
            (
              record { owned = c.requires.1.1.0.owned; leaving = λ k. c.requires.1.1.0.leaving (λ _. k (of_param 1)) },
              (
                record { owned = c.requires.1.1.1.0.owned; leaving = λ k. c.requires.1.1.1.0.leaving (λ _. k (of_param 2)) },
                (tt, (r.1.1.1.0, (r.1.1.1.1.0, (r.1.1.1.1.1.0, (r.1.1.1.1.1.1.0, (r.1.1.1.1.1.1.1.0, r.1.1.1.1.1.1.1.1)))))),
              ),
            ),
          ),
        ),
      ),
    )

pub commit-requires : goal.commit-requires
commit-requires g c =
    let b = c.args.book.now in
    let mid = c.work_job.new.pass in
    let keeps = claims_keep g.setting c.args.self.now.slot c.rounds_are_bounded.ensures.claim b mid c.in-Ok.ensures.claims in
    (in_after g.setting g.setting.known b mid keeps.run c.requires.1.1.1.1.0, (c.in-Ok.ensures.given, (c.in-Ok.ensures.goes_on, (keeps.stopped ∙ c.requires.1.1.1.1.1.0, keeps.others c.requires.1.1.1.1.1.1.0))))

pub returns-in-Ok-clause-run : goal.returns-in-Ok-clause-run
returns-in-Ok-clause-run g c =
    let b = c.args.book.now in
    let mid = c.work_job.new.pass in
    let keeps = claims_keep g.setting c.args.self.now.slot c.rounds_are_bounded.ensures.claim b mid c.in-Ok.ensures.claims in
    run_onward g.setting.known b mid c.commit.new.book keeps.run c.commit.ensures.run

pub returns-in-Ok-clause-end : goal.returns-in-Ok-clause-end
returns-in-Ok-clause-end g c =
    let b = c.args.book.now in
    let mid = c.work_job.new.pass in
    let keeps = claims_keep g.setting c.args.self.now.slot c.rounds_are_bounded.ensures.claim b mid c.in-Ok.ensures.claims in
    let most : rounds_left mid ≤ rounds_left b = omega (arith, keeps.rounds) in
    ends_from c.args.self.now.slot b mid c.commit.new.book c.commit.result (keeps.stopped ∙ c.requires.1.1.1.1.1.0) keeps.slots keeps.commits most c.commit.ensures.end

pub returns-in-Ok-clause-fails : goal.returns-in-Ok-clause-fails
returns-in-Ok-clause-fails g c =
    let b = c.args.book.now in
    let mid = c.work_job.new.pass in
    let shelf = observed_shelf g.F.Shelf.strict g.F.Shelf.faults c.args.kit.now.shelf c.work_job.new.kit.shelf in
    let store = observed_store g.S.Store.files g.S.Store.faults c.args.kit.now.store c.work_job.new.kit.store in
    let keeps = claims_keep g.setting c.args.self.now.slot c.rounds_are_bounded.ensures.claim b mid c.in-Ok.ensures.claims in
    fails_from shelf store b mid c.commit.new.book c.commit.result keeps.calls keeps.reads (fails_none shelf store mid c.commit.new.book c.commit.result c.commit.ensures.counts)

pub give_back-requires : goal.give_back-requires
give_back-requires g c =
    let b = c.args.book.now in
    let mid = c.work_job.new.pass in
    let shelf = observed_shelf g.F.Shelf.strict g.F.Shelf.faults c.args.kit.now.shelf c.work_job.new.kit.shelf in
    let store = observed_store g.S.Store.files g.S.Store.faults c.args.kit.now.store c.work_job.new.kit.store in
    let keeps = claims_keep g.setting c.args.self.now.slot c.rounds_are_bounded.ensures.claim b mid c.in-Err-Faulted.ensures.claims in
    let refused = subst (λ (e : ExecRefusal). IsJobRefused g.setting shelf store (known_at mid c.args.self.now.slot) e) c.in-Err-Faulted.field-0-is c.in-Err-Faulted.ensures.refused in
    (in_after g.setting g.setting.known b mid keeps.run c.requires.1.1.1.1.0, (refused.1, (refused.2, (keeps.stopped ∙ c.requires.1.1.1.1.1.0, keeps.others c.requires.1.1.1.1.1.1.0))))

pub returns-in-Err-Faulted-clause-run : goal.returns-in-Err-Faulted-clause-run
returns-in-Err-Faulted-clause-run g c =
    let b = c.args.book.now in
    let mid = c.work_job.new.pass in
    let keeps = claims_keep g.setting c.args.self.now.slot c.rounds_are_bounded.ensures.claim b mid c.in-Err-Faulted.ensures.claims in
    run_onward g.setting.known b mid c.give_back.new.book keeps.run c.give_back.ensures.run

pub returns-in-Err-Faulted-clause-end : goal.returns-in-Err-Faulted-clause-end
returns-in-Err-Faulted-clause-end g c =
    let b = c.args.book.now in
    let mid = c.work_job.new.pass in
    let keeps = claims_keep g.setting c.args.self.now.slot c.rounds_are_bounded.ensures.claim b mid c.in-Err-Faulted.ensures.claims in
    let most : rounds_left mid ≤ rounds_left b = omega (arith, keeps.rounds) in
    ends_from c.args.self.now.slot b mid c.give_back.new.book c.give_back.result (keeps.stopped ∙ c.requires.1.1.1.1.1.0) keeps.slots keeps.commits most c.give_back.ensures.end

pub returns-in-Err-Faulted-clause-fails : goal.returns-in-Err-Faulted-clause-fails
returns-in-Err-Faulted-clause-fails g c =
    let b = c.args.book.now in
    let mid = c.work_job.new.pass in
    let shelf = observed_shelf g.F.Shelf.strict g.F.Shelf.faults c.args.kit.now.shelf c.work_job.new.kit.shelf in
    let store = observed_store g.S.Store.files g.S.Store.faults c.args.kit.now.store c.work_job.new.kit.store in
    let keeps = claims_keep g.setting c.args.self.now.slot c.rounds_are_bounded.ensures.claim b mid c.in-Err-Faulted.ensures.claims in
    let refused = subst (λ (e : ExecRefusal). IsJobRefused g.setting shelf store (known_at mid c.args.self.now.slot) e) c.in-Err-Faulted.field-0-is c.in-Err-Faulted.ensures.refused in
    fails_from shelf store b mid c.give_back.new.book c.give_back.result keeps.calls keeps.reads
    (fails_one shelf store mid c.give_back.new.book c.in-Err-Faulted.at c.in-Err-Faulted.cause c.give_back.result c.give_back.ensures.counts refused.0)

pub returns-in-Err-NoMemory-clause-run : goal.returns-in-Err-NoMemory-clause-run
returns-in-Err-NoMemory-clause-run g c =
    (claims_keep g.setting c.args.self.now.slot c.rounds_are_bounded.ensures.claim c.args.book.now c.work_job.new.pass c.in-Err-NoMemory.ensures.claims).run

pub returns-in-Err-NoMemory-clause-end : goal.returns-in-Err-NoMemory-clause-end
returns-in-Err-NoMemory-clause-end g c =
    (tt, (claims_keep g.setting c.args.self.now.slot c.rounds_are_bounded.ensures.claim c.args.book.now c.work_job.new.pass c.in-Err-NoMemory.ensures.claims).commits)

pub returns-in-Err-NoMemory-clause-fails : goal.returns-in-Err-NoMemory-clause-fails
returns-in-Err-NoMemory-clause-fails g c =
    let b = c.args.book.now in
    let mid = c.work_job.new.pass in
    let keeps = claims_keep g.setting c.args.self.now.slot c.rounds_are_bounded.ensures.claim b mid c.in-Err-NoMemory.ensures.claims in
    fails_none (observed_shelf g.F.Shelf.strict g.F.Shelf.faults c.args.kit.now.shelf c.work_job.new.kit.shelf) (observed_store g.S.Store.files g.S.Store.faults c.args.kit.now.store c.work_job.new.kit.store) b mid
    (Some ends.NoMemory) (record { calls = keeps.calls; reads = keeps.reads; unspent = tt })
