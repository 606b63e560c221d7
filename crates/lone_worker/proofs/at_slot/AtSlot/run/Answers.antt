use mir.Syntax.{of_param}
use Rattle.std.proofs.Common.{Some, rules, refl, ap, ◌∙◌}
use Rattle.book_core.specs.Book.{SeenBook}
use Rattle.known_jobs.specs.Jobs.{known_at}
use Rattle.lone_worker.specs.declared.work.Stage.TheVariants as stage
use Rattle.lone_worker.specs.declared.work.Work.{Work}
use Rattle.lone_worker.proofs.Bases.{lengths_on, reads}
use Rattle.lone_worker.proofs.Wholes.{none_claimed, run_known, run_sound, whole_at}
use Rattle.lone_worker.proofs.at_slot.AtSlot.run.Goals as goal

pub work_job-requires : goal.work_job-requires
work_job-requires g c κs within =
    let r = c.requires.1.1.1.1 in
    let b = c.args.book.now in
    let work = c.args.work.now in
    let worker = c.args.worker.now in
    let opened = g.S.Store.opened c.args.kit.now.store in
    let known = run_known g.base (known_at b c.args.self.now.slot) work.job work.stage work r.1.1.1.1.1 r.1.1.1.1.0 in
    let reading = reads g.base opened worker.readers.items worker.place worker.bench.pager r.1.1.0 c.args.graph.now r.0 in
    let lengths = lengths_on g.base opened worker.readers.items worker.place worker.bench.pager r.1.1.0 in (
      search rules,
      (
        search rules,
        (
          search rules,
          (
            search rules,
            (
              record { owned = c.requires.1.1.0.owned; leaving = λ k. c.requires.1.1.0.leaving (λ _. k (of_param 1)) },
              (
                record { owned = c.requires.1.1.1.0.owned; leaving = λ k. c.requires.1.1.1.0.leaving (λ _. k (of_param 2)) },
                (tt, (known, (r.1.1.1.0, (r.0, (r.1.0, (reading, lengths)))))),
              ),
            ),
          ),
        ),
      ),
    )

pub returns-in-Ok-clause-book : goal.returns-in-Ok-clause-book
returns-in-Ok-clause-book g c =
    let r = c.requires.1.1.1.1 in
    let b = c.args.book.now in
    let slot = c.args.self.now.slot in
    let work = c.args.work.now in
    none_claimed b c.work_job.new.pass slot work.job work.stage r.1.1.1.1.1 (run_known g.base (known_at b slot) work.job work.stage work r.1.1.1.1.1 r.1.1.1.1.0) c.in-Ok.ensures.claims

pub returns-in-Ok-clause-done : goal.returns-in-Ok-clause-done
returns-in-Ok-clause-done g c =
    let r = c.requires.1.1.1.1 in
    let b = c.args.book.now in
    let slot = c.args.self.now.slot in
    let work = c.args.work.now in
    let known = run_known g.base (known_at b slot) work.job work.stage work r.1.1.1.1.1 r.1.1.1.1.0 in
    let same = none_claimed b c.work_job.new.pass slot work.job work.stage r.1.1.1.1.1 known c.in-Ok.ensures.claims in
    (refl, run_sound g.base.setting (known_at c.work_job.new.pass slot) work.job work.stage c.in-Ok.receipt r.1.1.1.1.1 (ap (λ (x : SeenBook). known_at x slot) same ∙ known) c.in-Ok.ensures.given)

pub returns-in-Ok-clause-work : goal.returns-in-Ok-clause-work
returns-in-Ok-clause-work g c =
    let r = c.requires.1.1.1.1 in
    let b = c.args.book.now in
    let slot = c.args.self.now.slot in
    let work = c.args.work.now in
    let known = run_known g.base (known_at b slot) work.job work.stage work r.1.1.1.1.1 r.1.1.1.1.0 in
    let same = none_claimed b c.work_job.new.pass slot work.job work.stage r.1.1.1.1.1 known c.in-Ok.ensures.claims in
    let later : Work = record work { stage = stage.Over; receipt = Some c.in-Ok.receipt } in
    whole_at g.base (known_at c.work_job.new.pass slot) work.job work.stage later r.1.1.1.1.1 (ap (λ (x : SeenBook). known_at x slot) same ∙ known) c.in-Ok.ensures.given

pub returns-in-Err-Faulted-clause-book : goal.returns-in-Err-Faulted-clause-book
returns-in-Err-Faulted-clause-book g c =
    let r = c.requires.1.1.1.1 in
    let b = c.args.book.now in
    let slot = c.args.self.now.slot in
    let work = c.args.work.now in
    none_claimed b c.work_job.new.pass slot work.job work.stage r.1.1.1.1.1 (run_known g.base (known_at b slot) work.job work.stage work r.1.1.1.1.1 r.1.1.1.1.0) c.in-Err-Faulted.ensures.claims

pub returns-in-Err-Faulted-clause-work : goal.returns-in-Err-Faulted-clause-work
returns-in-Err-Faulted-clause-work g c =
    let r = c.requires.1.1.1.1 in
    let b = c.args.book.now in
    let slot = c.args.self.now.slot in
    let work = c.args.work.now in
    let known = run_known g.base (known_at b slot) work.job work.stage work r.1.1.1.1.1 r.1.1.1.1.0 in
    let same = none_claimed b c.work_job.new.pass slot work.job work.stage r.1.1.1.1.1 known c.in-Err-Faulted.ensures.claims in
    let later : Work = record work { stage = stage.Faulted c.in-Err-Faulted.at c.in-Err-Faulted.cause } in
    whole_at g.base (known_at c.work_job.new.pass slot) work.job work.stage later r.1.1.1.1.1 (ap (λ (x : SeenBook). known_at x slot) same ∙ known) tt

pub returns-in-Err-NoMemory-clause-book : goal.returns-in-Err-NoMemory-clause-book
returns-in-Err-NoMemory-clause-book g c =
    let r = c.requires.1.1.1.1 in
    let b = c.args.book.now in
    let slot = c.args.self.now.slot in
    let work = c.args.work.now in
    none_claimed b c.work_job.new.pass slot work.job work.stage r.1.1.1.1.1 (run_known g.base (known_at b slot) work.job work.stage work r.1.1.1.1.1 r.1.1.1.1.0) c.in-Err-NoMemory.ensures.claims
