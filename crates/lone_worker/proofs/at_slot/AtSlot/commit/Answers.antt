use Rattle.std.proofs.Common.{ap}
use Rattle.book_core.specs.Book.{SeenBook}
use Rattle.book_core.specs.Steps.{Commit, Committed}
use Rattle.known_jobs.specs.Calls.{CanCommitAs}
use Rattle.known_jobs.specs.Carried.{can_commit}
use Rattle.known_jobs.specs.Jobs.{known_at}
use Rattle.known_jobs.specs.Known.{goes_on_at, known_where}
use Rattle.lone_worker.proofs.Leading.{run_one}
use Rattle.lone_worker.proofs.Rounds.{committed_round}
use Rattle.lone_worker.proofs.at_slot.AtSlot.commit.Goals as goal

pub commit-requires : goal.commit-requires
commit-requires g c =
    let b = c.args.book.now in
    let slot = c.args.self.now.slot in
    (can_commit g.setting b slot (known_at b slot) c.requires.0.plan (known_where (λ known. CanCommitAs g.setting known c.args.receipt) (λ h. h) b slot c.is_sane.ensures.held c.requires.1.0) c.args.receipt c.requires.1.0).0

pub returns-in-Ok-clause-run : goal.returns-in-Ok-clause-run
returns-in-Ok-clause-run g c =
    let b = c.args.book.now in
    let slot = c.args.self.now.slot in
    let told = g.setting.known.told in
    let can = can_commit g.setting b slot (known_at b slot) c.requires.0.plan (known_where (λ known. CanCommitAs g.setting known c.args.receipt) (λ h. h) b slot c.is_sane.ensures.held c.requires.1.0) c.args.receipt
    c.requires.1.0 in
    let made = c.in-Ok.ensures.ok told can.1 in
    run_one g.setting.known b c.commit.new.self slot Commit Committed (c.args.receipt, made.0, made.1) tt

pub returns-in-Ok-clause-end : goal.returns-in-Ok-clause-end
returns-in-Ok-clause-end g c =
    let b = c.args.book.now in
    let slot = c.args.self.now.slot in
    let told = g.setting.known.told in
    let can = can_commit g.setting b slot (known_at b slot) c.requires.0.plan (known_where (λ known. CanCommitAs g.setting known c.args.receipt) (λ h. h) b slot c.is_sane.ensures.held c.requires.1.0) c.args.receipt
    c.requires.1.0 in
    let made = c.in-Ok.ensures.ok told can.1 in
    committed_round told b c.commit.new.self slot c.args.receipt made.0 c.requires.1.1.1.0 c.requires.1.1.1.1
    (c.rounds_are_bounded.ensures.commit told b c.commit.new.self slot c.is_sane.ensures (c.args.receipt, made.0, made.1) (goes_on_at b slot c.requires.1.1.0))

pub returns-in-Ok-clause-counts : goal.returns-in-Ok-clause-counts
returns-in-Ok-clause-counts g c =
    let b = c.args.book.now in
    let slot = c.args.self.now.slot in
    let can = can_commit g.setting b slot (known_at b slot) c.requires.0.plan (known_where (λ known. CanCommitAs g.setting known c.args.receipt) (λ h. h) b slot c.is_sane.ensures.held c.requires.1.0) c.args.receipt
    c.requires.1.0 in
    let is = (c.in-Ok.ensures.ok g.setting.known.told can.1).0.commit.is in
    record { calls = ap (λ (x : SeenBook). x.calls) is; reads = ap (λ (x : SeenBook). x.reads) is; unspent = tt }
