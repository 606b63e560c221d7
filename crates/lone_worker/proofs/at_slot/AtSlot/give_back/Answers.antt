use Rattle.std.proofs.Common.{None, Some, refl}
use Rattle.book_core.specs.Steps.{Fail, Retried, Spent}
use Rattle.known_jobs.specs.Calls.{CanFailAs}
use Rattle.known_jobs.specs.Carried.{can_fail, fails_honestly}
use Rattle.known_jobs.specs.Jobs.{known_at}
use Rattle.known_jobs.specs.Known.{known_where}
use Rattle.lone_worker.proofs.Leading.{run_one}
use Rattle.lone_worker.specs.declared.alone.AloneEnd.TheVariants as ends
use Rattle.lone_worker.proofs.Rounds.{breaks_none, failed_counts, failed_round, spent_by, spent_stops}
use Rattle.lone_worker.proofs.at_slot.AtSlot.give_back.Goals as goal

pub fail-requires : goal.fail-requires
fail-requires g c =
    let b = c.args.book.now in
    let slot = c.args.self.now.slot in
    can_fail g.setting b slot (known_at b slot) c.requires.0.plan (known_where (λ known. CanFailAs g.setting known c.args.at c.args.cause) (λ h. h) b slot c.is_sane.ensures.held c.requires.1.0) c.args.at c.args.cause
    c.requires.1.0

pub returns-in-Retry-clause-run : goal.returns-in-Retry-clause-run
returns-in-Retry-clause-run g c =
    let b = c.args.book.now in
    let slot = c.args.self.now.slot in
    let honest = fails_honestly g.setting b slot (known_at b slot) c.requires.0.plan (known_where (λ known. CanFailAs g.setting known c.args.at c.args.cause) (λ h. h) b slot c.is_sane.ensures.held c.requires.1.0) c.args.at
    c.args.cause c.requires.1.0 in
    run_one g.setting.known b c.fail.new.self slot (Fail c.args.at c.args.cause) Retried (c.in-Retry.ensures g.setting.known.told) honest

pub returns-in-Retry-clause-end : goal.returns-in-Retry-clause-end
returns-in-Retry-clause-end g c =
    let b = c.args.book.now in
    let slot = c.args.self.now.slot in
    let step = c.in-Retry.ensures g.setting.known.told in
    failed_round b c.fail.new.self slot c.args.at c.args.cause Retried step refl c.requires.1.1.1.0 c.requires.1.1.1.1
    (c.rounds_are_bounded.ensures.fail b c.fail.new.self slot c.args.at c.args.cause Retried c.is_sane.ensures (breaks_none b slot c.args.cause c.requires.1.1.0) step)

pub returns-in-Retry-clause-counts : goal.returns-in-Retry-clause-counts
returns-in-Retry-clause-counts g c = failed_counts c.args.book.now c.fail.new.self c.args.self.now.slot c.args.at c.args.cause Retried (c.in-Retry.ensures g.setting.known.told) None tt

pub returns-in-Spent-clause-run : goal.returns-in-Spent-clause-run
returns-in-Spent-clause-run g c =
    let b = c.args.book.now in
    let slot = c.args.self.now.slot in
    let honest = fails_honestly g.setting b slot (known_at b slot) c.requires.0.plan (known_where (λ known. CanFailAs g.setting known c.args.at c.args.cause) (λ h. h) b slot c.is_sane.ensures.held c.requires.1.0) c.args.at
    c.args.cause c.requires.1.0 in
    run_one g.setting.known b c.fail.new.self slot (Fail c.args.at c.args.cause) (Spent c.in-Spent.note) (c.in-Spent.ensures g.setting.known.told) honest

pub returns-in-Spent-clause-end : goal.returns-in-Spent-clause-end
returns-in-Spent-clause-end g c =
    spent_stops c.args.book.now c.fail.new.self c.args.self.now.slot c.args.at c.args.cause c.in-Spent.note (c.in-Spent.ensures g.setting.known.told) c.is_sane.ensures c.requires.1.1.1.0

pub returns-in-Spent-clause-counts : goal.returns-in-Spent-clause-counts
returns-in-Spent-clause-counts g c =
    let b = c.args.book.now in
    let new = c.fail.new.self in
    let slot = c.args.self.now.slot in
    let step = c.in-Spent.ensures g.setting.known.told in
    failed_counts b new slot c.args.at c.args.cause (Spent c.in-Spent.note) step (Some (ends.Spent c.in-Spent.note)) (spent_by b new slot c.args.at c.args.cause c.in-Spent.note step)
