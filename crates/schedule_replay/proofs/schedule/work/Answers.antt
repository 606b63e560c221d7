use Rattle.std.proofs.Common.{◌≡◌, true, not, rules, sym, subst}
use Rattle.beam_ports.specs.Observed.{observed_store}
use Rattle.chain_exec.specs.Causes.{observed_shelf}
use Rattle.schedule_words.specs.Schedules.{IsProper}
use Rattle.schedule_words.specs.Told.{told_text}
use Rattle.schedule_words.specs.declared.line.Line.{Line}
use Rattle.schedule_words.specs.declared.told.Told.TheVariants as answered
use Rattle.schedule_replay.specs.Shown.{shown}
use Rattle.schedule_replay.specs.Standing.{IsWorked}
use Rattle.schedule_replay.specs.Stands.{is_allowed}
use Rattle.schedule_replay.proofs.Drained.{none_same}
use Rattle.schedule_replay.proofs.LineWorks.{drain_free, drain_rests, run_works, take_works}
use Rattle.schedule_replay.proofs.schedule.work.Goals as goal

pub take-requires : goal.take-requires
take-requires g c =
    let r = c.requires.1.1.1.1 in
    (r.1.1.1.0, subst (λ (l : Line). is_allowed (shown c.args.stand.now) l ≡ true) c.in-Take.is r.1.1.1.1.0)

pub claim-requires : goal.claim-requires
claim-requires g c κs within =
    let r = c.requires.1.1.1.1 in
    let may = subst (λ (l : Line). is_allowed (shown c.args.stand.now) l ≡ true) c.in-Claim.is r.1.1.1.1.0 in
    (search rules, (search rules, (search rules, (search rules, (r.0, (r.1.0, (r.1.1.0, (r.1.1.1.0, may))))))))

pub run-requires : goal.run-requires
run-requires g c κs within =
    let r = c.requires.1.1.1.1 in
    let may = subst (λ (l : Line). is_allowed (shown c.args.stand.now) l ≡ true) c.in-RunJob.is r.1.1.1.1.0 in
    (search rules, (search rules, (search rules, (search rules, (r.0, (r.1.0, (r.1.1.0, (r.1.1.1.0, may))))))))

pub split-requires : goal.split-requires
split-requires g c =
    let r = c.requires.1.1.1.1 in
    (r.1.1.1.0, subst IsProper c.in-Split.is r.1.1.1.1.1)

pub commit-requires : goal.commit-requires
commit-requires g c =
    let r = c.requires.1.1.1.1 in
    (r.1.1.1.0, (r.1.1.0.first, subst (λ (l : Line). is_allowed (shown c.args.stand.now) l ≡ true) c.in-Commit.is r.1.1.1.1.0))

pub fail-spent-requires : goal.fail-spent-requires
fail-spent-requires g c =
    let r = c.requires.1.1.1.1 in
    (r.1.1.1.0, subst (λ (l : Line). is_allowed (shown c.args.stand.now) l ≡ true) c.in-Fail.is r.1.1.1.1.0)

pub drain-requires : goal.drain-requires
drain-requires g c κs within =
    let r = c.requires.1.1.1.1 in
    let all = subst (λ (l : Line). is_allowed (shown c.args.stand.now) l ≡ true) c.in-Drain.is r.1.1.1.1.0 in
    (search rules, (search rules, (search rules, (search rules, (r.0, (r.1.0, (r.1.1.0, (r.1.1.1.0, (drain_free g.base c.args.stand.now r.1.1.1.0 all, drain_rests g.base c.args.stand.now r.1.1.1.0 all)))))))))

pub returns-in_ok-what-in-Take-clause-done : goal.returns-in_ok-what-in-Take-clause-done
returns-in_ok-what-in-Take-clause-done g c =
    let shelf = observed_shelf g.F.Shelf.strict g.F.Shelf.faults c.args.kit.now.shelf c.args.kit.now.shelf in
    let store = observed_store g.S.Store.files g.S.Store.faults c.args.kit.now.store c.args.kit.now.store in
    let s = shown c.args.stand.now in
    let new = shown c.take.new.self in
    let honest = none_same g.base g.F.Shelf.strict g.F.Shelf.faults g.S.Store.files g.S.Store.faults c.args.kit.now.shelf c.args.kit.now.store in
    subst (λ (l : Line). IsWorked g.base shelf store s new l (told_text (answered.Taken c.in-Take.slot c.in_ok-what-in-Take.what))) (sym c.in-Take.is)
    (take_works g.base shelf store s new c.in-Take.slot honest c.in_ok-what-in-Take.what c.in_ok-what-in-Take.ensures.done)

pub returns-in_ok-worked-in-RunJob-clause-done : goal.returns-in_ok-worked-in-RunJob-clause-done
returns-in_ok-worked-in-RunJob-clause-done g c =
    let shelf = observed_shelf g.F.Shelf.strict g.F.Shelf.faults c.args.kit.now.shelf c.run.new.kit.shelf in
    let store = observed_store g.S.Store.files g.S.Store.faults c.args.kit.now.store c.run.new.kit.store in
    let s = shown c.args.stand.now in
    let new = shown c.run.new.self in
    subst (λ (l : Line). IsWorked g.base shelf store s new l (told_text (answered.Ran c.in-RunJob.slot (not c.in_ok-worked-in-RunJob.worked)))) (sym c.in-RunJob.is)
    (run_works g.base shelf store s new c.in-RunJob.slot c.in_ok-worked-in-RunJob.worked c.in_ok-worked-in-RunJob.ensures.done)
