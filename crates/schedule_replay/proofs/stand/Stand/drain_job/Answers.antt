use Rattle.std.proofs.Common.{◌<◌, rules, sym, ◌∙◌, arith}
use Rattle.book_core.specs.Left.{rounds_left}
use Rattle.schedule_replay.specs.Shown.{shown}
use Rattle.schedule_replay.specs.Stands.{work_at}
use Rattle.schedule_replay.proofs.Drained.{job_lines}
use Rattle.schedule_replay.proofs.Idle.{rests_idle}
use Rattle.schedule_replay.proofs.Onward.{take_rests, take_works, works_job}
use Rattle.schedule_replay.proofs.stand.Stand.drain_job.Goals as goal

pub work_first-requires : goal.work_first-requires
work_first-requires g c κs within =
    let r = c.requires.1.1.1.1 in
    let stood = c.args.self.now in
    let s = shown stood in
    let mid = shown c.take.new.self in
    let told = g.base.setting.known.told in
    let has = c.in_ok-took.ensures.done in
    let idle = rests_idle g.base stood r.1.1.1.0 r.1.1.1.1.0 r.1.1.1.1.1 in
    let may = take_works told s mid c.in_ok-took.took has r.1.1.1.1.0 idle (sym c.stopped_by-end.ensures ∙ c.in_default.is) in
    (search rules, (search rules, (search rules, (search rules, (r.0, (r.1.0, (r.1.1.0, (c.in_ok-took.ensures.standing, (take_rests told s mid c.in_ok-took.took has r.1.1.1.1.1, may)))))))))

pub returns-clause-done : goal.returns-clause-done
returns-clause-done g c =
    let r = c.requires.1.1.1.1 in
    let stood = c.args.self.now in
    let s = shown stood in
    let mid = shown c.take.new.self in
    let next = shown c.work_first.new.self in
    let new = shown c.finish.new.self in
    let told = g.base.setting.known.told in
    let has = c.in_ok-took.ensures.done in
    let idle = rests_idle g.base stood r.1.1.1.0 r.1.1.1.1.0 r.1.1.1.1.1 in
    let works = take_works told s mid c.in_ok-took.took has r.1.1.1.1.0 idle (sym c.stopped_by-end.ensures ∙ c.in_default.is) in
    let worked = c.in_ok-work_first.ensures.worked in
    let last = c.in_ok-finish.ensures in
    let fewer : rounds_left new.book < rounds_left s.book = omega (arith, last.rounds, c.in_ok-work_first.ensures.rounds, c.take.ensures.rounds) in
    record {
      emitted = worked.emitted;
      lines = λ before.
          job_lines g.base g.F.Shelf.strict g.F.Shelf.faults g.S.Store.files g.S.Store.faults c.args.kit.now.shelf c.work_first.new.kit.shelf c.args.kit.now.store c.work_first.new.kit.store before s mid next new c.in_ok-took.took
          r.1.1.1.1.0 has (works_job (work_at mid 0) works) worked (last.line worked.emitted worked.ends);
      free = last.free;
      others = last.others;
      fewer = fewer;
    }
