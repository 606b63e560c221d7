use Rattle.std.proofs.Common.{true, false, rules, sym, subst}
use Rattle.beam_ports.specs.Observed.{observed_store}
use Rattle.book_core.specs.Book.{SeenBook}
use Rattle.chain_exec.specs.Causes.{observed_shelf}
use Rattle.known_jobs.specs.Calls.{HasAttempted}
use Rattle.known_jobs.specs.Jobs.{known_at}
use Rattle.bundle_work.proofs.Answered.{kit_same}
use Rattle.schedule_replay.specs.Shown.{shown}
use Rattle.schedule_replay.specs.Stands.{may_claim, may_run, work_at}
use Rattle.schedule_replay.proofs.Drained.{lines_none, none_same, run_line}
use Rattle.schedule_replay.proofs.Idle.{over_attempts, run_attempts, tested}
use Rattle.schedule_replay.proofs.Onward.{over_ends, over_where, run_rests, runs_stop}
use Rattle.schedule_replay.proofs.stand.Stand.work_first.Goals as goal

pub claim_all-requires : goal.claim_all-requires
claim_all-requires g c κs within =
    let r = c.requires.1.1.1.1 in
    let may = tested may_claim c.args.self.now 0 c.as_slice.result.now c.may_claim.result true c.as_slice.ensures.value c.may_claim.ensures c.if-may_claim.true in
    (search rules, (search rules, (search rules, (search rules, (r.0, (r.1.0, (r.1.1.0, (r.1.1.1.0, (r.1.1.1.1.0, may)))))))))

pub run-requires : goal.run-requires
run-requires g c κs within =
    let r = c.requires.1.1.1.1 in
    let stood = c.args.self.now in
    let may = tested may_run stood 0 c.as_slice-2.result.now c.may_run.result true c.as_slice-2.ensures.value c.may_run.ensures c.if-not-may_run.false in
    (search rules, (search rules, (search rules, (search rules, (r.0, (r.1.0, (r.1.1.0, (r.1.1.1.0, may))))))))

pub returns-then-not-may_run-clause-worked : goal.returns-then-not-may_run-clause-worked
returns-then-not-may_run-clause-worked g c =
    let stood = c.args.self.now in
    let s = shown stood in
    let shelf = observed_shelf g.F.Shelf.strict g.F.Shelf.faults c.args.kit.now.shelf c.args.kit.now.shelf in
    let store = observed_store g.S.Store.files g.S.Store.faults c.args.kit.now.store c.args.kit.now.store in
    let no_claim = tested may_claim stood 0 c.as_slice.result.now c.may_claim.result false c.as_slice.ensures.value c.may_claim.ensures c.if-may_claim.false in
    let no_run = tested may_run stood 0 c.as_slice-2.result.now c.may_run.result false c.as_slice-2.ensures.value c.may_run.ensures c.if-not-may_run.true in
    let over = over_where (work_at s 0) c.requires.1.1.1.1.1.1.1.1.1 no_claim no_run in
    let none = none_same g.base g.F.Shelf.strict g.F.Shelf.faults g.S.Store.files g.S.Store.faults c.args.kit.now.shelf c.args.kit.now.store in
    record { emitted = 0; lines = lines_none g.base shelf store 0 s none; ends = over_ends g.base.setting.options.bundle 0 (work_at s 0) over }

pub returns-then-not-may_run-clause-attempted : goal.returns-then-not-may_run-clause-attempted
returns-then-not-may_run-clause-attempted g c =
    let stood = c.args.self.now in
    let no_claim = tested may_claim stood 0 c.as_slice.result.now c.may_claim.result false c.as_slice.ensures.value c.may_claim.ensures c.if-may_claim.false in
    let no_run = tested may_run stood 0 c.as_slice-2.result.now c.may_run.result false c.as_slice-2.ensures.value c.may_run.ensures c.if-not-may_run.true in
    over_attempts g.base stood c.requires.1.1.1.1.1.1.1.0 (over_where (work_at (shown stood) 0) c.requires.1.1.1.1.1.1.1.1.1 no_claim no_run)

pub returns-then-not-may_run-clause-kept : goal.returns-then-not-may_run-clause-kept
returns-then-not-may_run-clause-kept g c = kit_same g.F.Shelf.faults g.F.Shelf.strict g.S.Store.faults g.S.Store.files g.S.Store.opened c.args.kit.now.shelf c.args.kit.now.store

pub returns-clause-worked : goal.returns-clause-worked
returns-clause-worked g c =
    let s = shown c.args.self.now in
    let new = shown c.run.new.self in
    let shelf = observed_shelf g.F.Shelf.strict g.F.Shelf.faults c.args.kit.now.shelf c.run.new.kit.shelf in
    let store = observed_store g.S.Store.files g.S.Store.faults c.args.kit.now.store c.run.new.kit.store in
    let may = tested may_run c.args.self.now 0 c.as_slice-2.result.now c.may_run.result true c.as_slice-2.ensures.value c.may_run.ensures c.if-not-may_run.false in
    let has = c.in_ok-run.ensures.done in
    record { emitted = 0; lines = run_line g.base shelf store 0 s new _ may has; ends = runs_stop g.base shelf store s new _ has g.base.setting.options.bundle 0 }

pub returns-clause-attempted : goal.returns-clause-attempted
returns-clause-attempted g c =
    let stood = c.args.self.now in
    let may = tested may_run stood 0 c.as_slice-2.result.now c.may_run.result true c.as_slice-2.ensures.value c.may_run.ensures c.if-not-may_run.false in
    subst (λ (b : SeenBook). HasAttempted (known_at b 0)) (sym c.in_ok-run.ensures.book) (run_attempts g.base stood c.requires.1.1.1.1.1.1.1.0 may)

pub returns-clause-others : goal.returns-clause-others
returns-clause-others g c =
    let shelf = observed_shelf g.F.Shelf.strict g.F.Shelf.faults c.args.kit.now.shelf c.run.new.kit.shelf in
    let store = observed_store g.S.Store.files g.S.Store.faults c.args.kit.now.store c.run.new.kit.store in
    run_rests g.base shelf store (shown c.args.self.now) (shown c.run.new.self) _ c.in_ok-run.ensures.done c.requires.1.1.1.1.1.1.1.1.0
