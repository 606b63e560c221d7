use Rattle.std.proofs.Common.{true, false, ap}
use Rattle.schedule_replay.specs.Draining.{has_failed}
use Rattle.schedule_replay.specs.Shown.{shown}
use Rattle.schedule_replay.specs.Stands.{has_job, work_at}
use Rattle.schedule_replay.proofs.Drained.{commit_line, fail_line, may_commit_now}
use Rattle.schedule_replay.proofs.Idle.{failed_inside, failed_may, tested}
use Rattle.schedule_replay.proofs.Onward.{commits_job, last_frees, last_rests}
use Rattle.schedule_replay.proofs.stand.Stand.finish.Goals as goal

pub fail-requires : goal.fail-requires
fail-requires g c =
    let stood = c.args.self.now in
    let failed = tested has_failed stood 0 c.as_slice.result.now c.has_failed.result true c.as_slice.ensures.value c.has_failed.ensures c.if-has_failed.true in
    (c.requires.0, failed_may g.base stood c.requires.0 failed)

pub returns-then-has_failed-clause-line : goal.returns-then-has_failed-clause-line
returns-then-has_failed-clause-line g c = λ emitted ends.
    let stood = c.args.self.now in
    let failed = tested has_failed stood 0 c.as_slice.result.now c.has_failed.result true c.as_slice.ensures.value c.has_failed.ensures c.if-has_failed.true in
    fail_line g.base emitted (shown stood) ends (shown c.fail.new.self) c.fail.result failed (failed_may g.base stood c.requires.0 failed) c.fail.ensures.done

pub returns-then-has_failed-clause-free : goal.returns-then-has_failed-clause-free
returns-then-has_failed-clause-free g c =
    let done = c.fail.ensures.done.done in
    last_frees (shown c.args.self.now) (shown c.fail.new.self) done.after (ap has_job done.has)

pub returns-then-has_failed-clause-others : goal.returns-then-has_failed-clause-others
returns-then-has_failed-clause-others g c = last_rests (shown c.args.self.now) (shown c.fail.new.self) c.fail.ensures.done.done.after c.requires.1.1.1.1

pub commit-requires : goal.commit-requires
commit-requires g c =
    let stood = c.args.self.now in
    let ends = c.requires.1.1.0 in
    let failed = tested has_failed stood 0 c.as_slice.result.now c.has_failed.result false c.as_slice.ensures.value c.has_failed.ensures c.if-has_failed.false in
    (c.requires.0, (c.requires.1.0, may_commit_now g.base ends.0 (shown stood) ends.1 failed))

pub returns-clause-line : goal.returns-clause-line
returns-clause-line g c = λ emitted ends.
    let stood = c.args.self.now in
    let failed = tested has_failed stood 0 c.as_slice.result.now c.has_failed.result false c.as_slice.ensures.value c.has_failed.ensures c.if-has_failed.false in
    commit_line g.base emitted (shown stood) ends (shown c.commit.new.self) _ _ failed c.in_ok-commit.ensures.done

pub returns-clause-free : goal.returns-clause-free
returns-clause-free g c =
    let stood = c.args.self.now in
    let ends = c.requires.1.1.0 in
    let failed = tested has_failed stood 0 c.as_slice.result.now c.has_failed.result false c.as_slice.ensures.value c.has_failed.ensures c.if-has_failed.false in
    last_frees (shown stood) (shown c.commit.new.self) c.in_ok-commit.ensures.done.done.after (commits_job (work_at (shown stood) 0) (may_commit_now g.base ends.0 (shown stood) ends.1 failed))

pub returns-clause-others : goal.returns-clause-others
returns-clause-others g c = last_rests (shown c.args.self.now) (shown c.commit.new.self) c.in_ok-commit.ensures.done.done.after c.requires.1.1.1.1

pub returns-then-has_failed-clause-rounds : goal.returns-then-has_failed-clause-rounds
returns-then-has_failed-clause-rounds g c =
    let stood = c.args.self.now in
    let failed = tested has_failed stood 0 c.as_slice.result.now c.has_failed.result true c.as_slice.ensures.value c.has_failed.ensures c.if-has_failed.true in
    c.fail.ensures.rounds (failed_inside g.base stood c.requires.0 failed)
