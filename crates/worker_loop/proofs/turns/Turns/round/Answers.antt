use mir.Syntax.{of_param}
use Rattle.std.specs.Prelude.{Some, None}
use Rattle.std.proofs.Common.{rules, inl, inr, Ok, IsSome, refl, subst, sym, ◌∙◌}
use Rattle.beam_ports.specs.Observed.{observed_store}
use Rattle.chain_exec.specs.Causes.{observed_shelf}
use Rattle.book_core.specs.declared.live.Taken.{Taken}
use Rattle.worker_table.specs.Calls.{AfterTake}
use Rattle.book_core.specs.declared.live.Taken.TheVariants as taken
use Rattle.worker_table.specs.Passes.{entry_of, job_known, note_of_pass, setting_of, slot_of}
use Rattle.bundle_work.specs.Bundles.{IsJobRefused}
use Rattle.worker_loop.specs.declared.workers.WorkerEnd.TheVariants as end
use Rattle.worker_loop.proofs.Steps.{round_of, round_refused}
use Rattle.worker_loop.proofs.turns.Turns.round.Goals as goal

pub work_job-requires : goal.work_job-requires
work_job-requires g c κs within =
    let able = c.requires.able in
    let took = c.in-Ok-Job.ensures in
    let told = subst (λ (t : Taken). AfterTake {E = Unit {0}} (setting_of c.args.self.now.table.now) (Ok t) (entry_of c.args.pass.now) (entry_of c.take_job.new.pass)) c.in-Ok-Job.field-0-is took.told in (
      search rules,
      (
        search rules,
        (
          search rules,
          (
            search rules,
            (
              record { owned = c.type_bounds.send-F.owned; leaving = λ k. c.type_bounds.send-F.leaving (λ _. k (of_param 1)) },
              (
                record { owned = c.type_bounds.send-S.owned; leaving = λ k. c.type_bounds.send-S.leaving (λ _. k (of_param 2)) },
                ((took.table, subst IsSome (sym (took.stays.slot ∙ c.requires.slot)) refl), (told.0, (told.1, (able.plan, (able.strict, (able.reading, able.lengths)))))),
              ),
            ),
          ),
        ),
      ),
    )

pub returns-in-Ok-clause-turns : goal.returns-in-Ok-clause-turns
returns-in-Ok-clause-turns g c =
    let m = note_of_pass c.args.pass.now in
    let next = note_of_pass c.take_job.new.pass in
    let worked = note_of_pass c.work_job.new.pass in
    round_of (Unit {0}) (setting_of c.args.self.now.table.now) m next (note_of_pass c.commit.new.pass) (slot_of c.args.pass.now) c.args.self.now.slot c.in-Ok-Job.field-0 (taken.Job c.in-Ok-Job.job) c.commit.result c.requires.slot
    c.in-Ok-Job.field-0-is c.in-Ok-Job.ensures.turn (worked, c.work_job.ensures.claims, inl (c.in-Ok.receipt, c.work_job.new.self, c.commit.new.worker, c.in-Ok.ensures.goes_on, c.commit.ensures.turns))

pub returns-in-Err-Faulted-clause-turns : goal.returns-in-Err-Faulted-clause-turns
returns-in-Err-Faulted-clause-turns g c =
    let setting = setting_of c.args.self.now.table.now in
    let shelf = observed_shelf g.F.Shelf.strict g.F.Shelf.faults c.args.kit.now.shelf c.work_job.new.kit.shelf in
    let store = observed_store g.S.Store.files g.S.Store.faults c.args.kit.now.store c.work_job.new.kit.store in
    let refused = subst (IsJobRefused setting shelf store (job_known c.work_job.new.pass)) c.in-Err-Faulted.field-0-is c.in-Err-Faulted.ensures.refused in
    let m = note_of_pass c.args.pass.now in
    let next = note_of_pass c.take_job.new.pass in
    let worked = note_of_pass c.work_job.new.pass in
    round_of (Unit {0}) (setting_of c.args.self.now.table.now) m next (note_of_pass c.give_back.new.pass) (slot_of c.args.pass.now) c.args.self.now.slot c.in-Ok-Job.field-0 (taken.Job c.in-Ok-Job.job) c.give_back.result c.requires.slot
    c.in-Ok-Job.field-0-is c.in-Ok-Job.ensures.turn (worked, c.work_job.ensures.claims, inr (inl (c.in-Err-Faulted.at, c.in-Err-Faulted.cause, refused.2, c.give_back.ensures.turn)))

pub returns-in-Ok-Job-clause-turns : goal.returns-in-Ok-Job-clause-turns
returns-in-Ok-Job-clause-turns g c =
    let m = note_of_pass c.args.pass.now in
    let next = note_of_pass c.take_job.new.pass in
    let worked = note_of_pass c.work_job.new.pass in
    round_of (Unit {0}) (setting_of c.args.self.now.table.now) m next (note_of_pass c.give_up.new.pass) (slot_of c.args.pass.now) c.args.self.now.slot c.in-Ok-Job.field-0 (taken.Job c.in-Ok-Job.job) (Some c.give_up.result) c.requires.slot
    c.in-Ok-Job.field-0-is c.in-Ok-Job.ensures.turn (worked, c.work_job.ensures.claims, inr (inr c.give_up.ensures.turn))

pub returns-in-Ok-Nothing-clause-turns : goal.returns-in-Ok-Nothing-clause-turns
returns-in-Ok-Nothing-clause-turns g c =
    let m = note_of_pass c.args.pass.now in
    let next = note_of_pass c.take_job.new.pass in
    round_of (Unit {0}) (setting_of c.args.self.now.table.now) m next (note_of_pass c.help.new.pass) (slot_of c.args.pass.now) c.args.self.now.slot c.in-Ok-Nothing.field-0 taken.Nothing None c.requires.slot
    c.in-Ok-Nothing.field-0-is c.in-Ok-Nothing.ensures.turn (refl, c.help.ensures.turn)

pub returns-in-Ok-Finished-clause-turns : goal.returns-in-Ok-Finished-clause-turns
returns-in-Ok-Finished-clause-turns g c =
    let m = note_of_pass c.args.pass.now in
    let next = note_of_pass c.take_job.new.pass in
    round_of (Unit {0}) (setting_of c.args.self.now.table.now) m next next (slot_of c.args.pass.now) c.args.self.now.slot c.in-Ok-Finished.field-0 taken.Finished (Some end.Finished) c.requires.slot
    c.in-Ok-Finished.field-0-is c.in-Ok-Finished.ensures.turn (refl, refl)

pub returns-in-Ok-Stopped-clause-turns : goal.returns-in-Ok-Stopped-clause-turns
returns-in-Ok-Stopped-clause-turns g c =
    let m = note_of_pass c.args.pass.now in
    let next = note_of_pass c.take_job.new.pass in
    round_of (Unit {0}) (setting_of c.args.self.now.table.now) m next next (slot_of c.args.pass.now) c.args.self.now.slot c.in-Ok-Stopped.field-0 taken.Stopped (Some end.Stopped) c.requires.slot
    c.in-Ok-Stopped.field-0-is c.in-Ok-Stopped.ensures.turn (refl, refl)

pub returns-clause-turns : goal.returns-clause-turns
returns-clause-turns g c =
    round_refused (setting_of c.args.self.now.table.now) (note_of_pass c.args.pass.now) (note_of_pass c.take_job.new.pass) (note_of_pass c.give_up-in-Err.new.pass) (slot_of c.args.pass.now) c.args.self.now.slot
    c.in-Err.field-0 (Some c.give_up-in-Err.result) c.requires.slot c.in-Err.ensures.turn c.give_up-in-Err.ensures.turn
