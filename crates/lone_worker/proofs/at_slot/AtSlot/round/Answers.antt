use Rattle.std.proofs.Common.{Some, rules, refl, sym, ap, subst}
use Rattle.beam_ports.specs.Observed.{observed_store}
use Rattle.book_core.specs.Book.{SeenBook}
use Rattle.book_core.specs.Calls.{Makes, answer_of}
use Rattle.book_core.specs.Steps.{Take, TakenJob}
use Rattle.book_core.specs.declared.live.Taken.{Taken}
use Rattle.chain_exec.specs.Causes.{observed_shelf}
use Rattle.lone_worker.specs.Alone.{GoesOnOrEnds}
use Rattle.lone_worker.specs.declared.alone.AloneEnd.TheVariants as ends
use Rattle.lone_worker.proofs.Counted.{fails_from, fails_none, none_where}
use Rattle.lone_worker.proofs.Leading.{in_after, run_one, run_onward, run_where}
use Rattle.lone_worker.proofs.Rounds.{ends_from, in_setting, taken_leaves}
use Rattle.lone_worker.proofs.at_slot.AtSlot.round.Goals as goal

pub do_job-requires : goal.do_job-requires
do_job-requires g c κs within =
    let b = c.args.book.now in
    let slot = c.args.self.now.slot in
    let new = c.take.new.self in
    let r = c.requires.1.1.1.1 in
    let makes = subst (λ (t : Taken). Makes b slot Take (answer_of t) new) c.in-Ok-Job.field-0-is c.in-Ok-Job.ensures.ok in
    let step = makes g.setting.known.told in
    let setting = in_after g.setting g.setting.known b new (run_one g.setting.known b new slot Take (TakenJob c.in-Ok-Job.job) step tt) r.0 in
    let leaves = taken_leaves b new slot c.in-Ok-Job.job step in
    let taken = c.jobs_are_known_as_they_are_taken.ensures.known b new slot c.in-Ok-Job.job step in
    let inside = in_setting g.setting b c.in-Ok-Job.job r.0 (c.jobs_are_known_as_they_are_taken.ensures.inside g.setting.known b new slot c.in-Ok-Job.job c.is_sane.ensures step) in
    (search rules, (search rules, (search rules, (search rules, (setting, (leaves.running, (leaves.others r.1.1.0, (taken, (inside, (r.1.1.1.0, (r.1.1.1.1.0, (r.1.1.1.1.1.0, r.1.1.1.1.1.1))))))))))))

pub returns-in-Ok-Job-clause-run : goal.returns-in-Ok-Job-clause-run
returns-in-Ok-Job-clause-run g c =
    let b = c.args.book.now in
    let slot = c.args.self.now.slot in
    let new = c.take.new.self in
    let makes = subst (λ (t : Taken). Makes b slot Take (answer_of t) new) c.in-Ok-Job.field-0-is c.in-Ok-Job.ensures.ok in
    run_onward g.setting.known b new c.do_job.new.book (run_one g.setting.known b new slot Take (TakenJob c.in-Ok-Job.job) (makes g.setting.known.told) tt) c.do_job.ensures.run

pub returns-in-Ok-Job-clause-end : goal.returns-in-Ok-Job-clause-end
returns-in-Ok-Job-clause-end g c =
    let b = c.args.book.now in
    let slot = c.args.self.now.slot in
    let new = c.take.new.self in
    let makes = subst (λ (t : Taken). Makes b slot Take (answer_of t) new) c.in-Ok-Job.field-0-is c.in-Ok-Job.ensures.ok in
    let taken = taken_leaves b new slot c.in-Ok-Job.job (makes g.setting.known.told) in
    ends_from slot b new c.do_job.new.book c.do_job.result taken.running taken.slots taken.commits (c.rounds_are_bounded.ensures.take b new slot c.in-Ok-Job.job c.is_sane.ensures (makes g.setting.known.told)) c.do_job.ensures.end

pub returns-in-Ok-Job-clause-fails : goal.returns-in-Ok-Job-clause-fails
returns-in-Ok-Job-clause-fails g c =
    let b = c.args.book.now in
    let slot = c.args.self.now.slot in
    let new = c.take.new.self in
    let makes = subst (λ (t : Taken). Makes b slot Take (answer_of t) new) c.in-Ok-Job.field-0-is c.in-Ok-Job.ensures.ok in
    let taken = taken_leaves b new slot c.in-Ok-Job.job (makes g.setting.known.told) in
    fails_from (observed_shelf g.F.Shelf.strict g.F.Shelf.faults c.args.kit.now.shelf c.do_job.new.kit.shelf) (observed_store g.S.Store.files g.S.Store.faults c.args.kit.now.store c.do_job.new.kit.store) b new c.do_job.new.book c.do_job.result
    taken.calls taken.reads c.do_job.ensures.fails

pub returns-in-Ok-Finished-clause-run : goal.returns-in-Ok-Finished-clause-run
returns-in-Ok-Finished-clause-run g c =
    let b = c.args.book.now in
    let slot = c.args.self.now.slot in
    let new = c.take.new.self in
    let makes = subst (λ (t : Taken). Makes b slot Take (answer_of t) new) c.in-Ok-Finished.field-0-is c.in-Ok-Finished.ensures.ok in
    run_where g.setting.known b new (makes g.setting.known.told).4

pub returns-in-Ok-Finished-clause-end : goal.returns-in-Ok-Finished-clause-end
returns-in-Ok-Finished-clause-end g c =
    let b = c.args.book.now in
    let slot = c.args.self.now.slot in
    let new = c.take.new.self in
    let makes = subst (λ (t : Taken). Makes b slot Take (answer_of t) new) c.in-Ok-Finished.field-0-is c.in-Ok-Finished.ensures.ok in
    let step = makes g.setting.known.told in
    subst (λ (x : SeenBook). GoesOnOrEnds slot b (Some ends.Finished) x) (sym step.4) ((step.0, step.2, record { idle = step.3; slots = refl }, tt), refl)

pub returns-in-Ok-Finished-clause-fails : goal.returns-in-Ok-Finished-clause-fails
returns-in-Ok-Finished-clause-fails g c =
    let b = c.args.book.now in
    let slot = c.args.self.now.slot in
    let new = c.take.new.self in
    let makes = subst (λ (t : Taken). Makes b slot Take (answer_of t) new) c.in-Ok-Finished.field-0-is c.in-Ok-Finished.ensures.ok in
    let same = (makes g.setting.known.told).4 in
    fails_none (observed_shelf g.F.Shelf.strict g.F.Shelf.faults c.args.kit.now.shelf c.args.kit.now.shelf) (observed_store g.S.Store.files g.S.Store.faults c.args.kit.now.store c.args.kit.now.store) b new
    (Some ends.Finished) (none_where b new (Some ends.Finished) same tt)

pub returns-in-Ok-Stopped-clause-run : goal.returns-in-Ok-Stopped-clause-run
returns-in-Ok-Stopped-clause-run g c =
    let b = c.args.book.now in
    let slot = c.args.self.now.slot in
    let new = c.take.new.self in
    let makes = subst (λ (t : Taken). Makes b slot Take (answer_of t) new) c.in-Ok-Stopped.field-0-is c.in-Ok-Stopped.ensures.ok in
    run_where g.setting.known b new (makes g.setting.known.told).2

pub returns-in-Ok-Stopped-clause-end : goal.returns-in-Ok-Stopped-clause-end
returns-in-Ok-Stopped-clause-end g c =
    let b = c.args.book.now in
    let slot = c.args.self.now.slot in
    let new = c.take.new.self in
    let makes = subst (λ (t : Taken). Makes b slot Take (answer_of t) new) c.in-Ok-Stopped.field-0-is c.in-Ok-Stopped.ensures.ok in
    let step = makes g.setting.known.told in
    ((step.0, step.2), ap (λ (x : SeenBook). x.commits) step.2)

pub returns-in-Ok-Stopped-clause-fails : goal.returns-in-Ok-Stopped-clause-fails
returns-in-Ok-Stopped-clause-fails g c =
    let b = c.args.book.now in
    let slot = c.args.self.now.slot in
    let new = c.take.new.self in
    let makes = subst (λ (t : Taken). Makes b slot Take (answer_of t) new) c.in-Ok-Stopped.field-0-is c.in-Ok-Stopped.ensures.ok in
    let same = (makes g.setting.known.told).2 in
    fails_none (observed_shelf g.F.Shelf.strict g.F.Shelf.faults c.args.kit.now.shelf c.args.kit.now.shelf) (observed_store g.S.Store.files g.S.Store.faults c.args.kit.now.store c.args.kit.now.store) b new
    (Some ends.Stopped) (none_where b new (Some ends.Stopped) same tt)

-- no other slot works
pub unreachable-requires : goal.unreachable-requires
unreachable-requires g c =
    let b = c.args.book.now in
    let slot = c.args.self.now.slot in
    let new = c.take.new.self in
    let makes = subst (λ (t : Taken). Makes b slot Take (answer_of t) new) c.in-Ok-Nothing.field-0-is c.in-Ok-Nothing.ensures.ok in
    (makes g.setting.known.told).3 c.requires.1.1.1.1.1.1.0

pub returns-in-Err-clause-run : goal.returns-in-Err-clause-run
returns-in-Err-clause-run g c = run_where g.setting.known c.args.book.now c.take.new.self c.in-Err.ensures.err

pub returns-in-Err-clause-end : goal.returns-in-Err-clause-end
returns-in-Err-clause-end g c = (tt, ap (λ (x : SeenBook). x.commits) c.in-Err.ensures.err)

pub returns-in-Err-clause-fails : goal.returns-in-Err-clause-fails
returns-in-Err-clause-fails g c =
    fails_none (observed_shelf g.F.Shelf.strict g.F.Shelf.faults c.args.kit.now.shelf c.args.kit.now.shelf) (observed_store g.S.Store.files g.S.Store.faults c.args.kit.now.store c.args.kit.now.store) c.args.book.now
    c.take.new.self (Some ends.NoMemory) (none_where c.args.book.now c.take.new.self (Some ends.NoMemory) c.in-Err.ensures.err tt)
