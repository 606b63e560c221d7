use Rattle.std.proofs.Common.{List, ℕ, [], refl, rules, subst}
use Rattle.std.proofs.lemmas.Result.{err_from_is_err_and}
use Rattle.beam_ports.specs.Observed.{observed_store}
use Rattle.bundle_work.proofs.Answered.{kit_same}
use Rattle.chain_exec.specs.Causes.{observed_shelf}
use Rattle.schedule_words.specs.Schedules.{lines_of}
use Rattle.schedule_replay.specs.Reaching.{AreLinesWorked, base_of}
use Rattle.schedule_replay.specs.Replays.{known_by}
use Rattle.schedule_replay.specs.Shown.{shown}
use Rattle.schedule_replay.proofs.Replayed.{reads_first}
use Rattle.schedule_replay.proofs.schedule.printed_lines.Goals as goal

pub work_lines-requires : goal.work_lines-requires
work_lines-requires g c κs within =
    let kit = c.requires.kit in
    let worker = c.in_ok-worker.worker in
    let base = base_of (known_by g.F.Shelf.strict g.S.Store.files c.args.kit.now) c.args.stand.now.book (g.S.Store.opened c.args.kit.now.store) worker.readers.items in
    let reading = reads_first base (g.S.Store.files c.args.kit.now.store) c.args.kit.now.files c.as_slice.result.now worker.place worker.bench.pager c.args.stand.now.book.plan c.args.plan.now c.requires.plan refl kit.told kit.opened kit.lengths
    c.as_slice.ensures c.in_ok-worker.ensures.reading c.in_ok-worker.ensures.lengths in
    (search rules, (search rules, (search rules, (search rules, (c.requires.plan, ((λ is. is), (reading, (c.requires.standing worker.readers.items, c.requires.short))))))))

pub returns-in_err-worker-clause-worked : goal.returns-in_err-worker-clause-worked
returns-in_err-worker-clause-worked g c = let p = err_from_is_err_and c.from_residual.result c.from_residual.ensures.1 in rw p.1 tt

pub returns-in_err-worker-clause-refused : goal.returns-in_err-worker-clause-refused
returns-in_err-worker-clause-refused g c = let p = err_from_is_err_and c.from_residual.result c.from_residual.ensures.1 in rw (p.1, p.2) ([], tt)

pub returns-in_err-worker-clause-standing : goal.returns-in_err-worker-clause-standing
returns-in_err-worker-clause-standing g c = let p = err_from_is_err_and c.from_residual.result c.from_residual.ensures.1 in rw p.1 tt

pub returns-in_err-worker-clause-kept : goal.returns-in_err-worker-clause-kept
returns-in_err-worker-clause-kept g c = kit_same g.F.Shelf.faults g.F.Shelf.strict g.S.Store.faults g.S.Store.files g.S.Store.opened c.args.kit.now.shelf c.args.kit.now.store

pub returns-in-Ok-clause-worked : goal.returns-in-Ok-clause-worked
returns-in-Ok-clause-worked g c =
    let shelf = observed_shelf g.F.Shelf.strict g.F.Shelf.faults c.args.kit.now.shelf c.work_lines.new.kit.shelf in
    let store = observed_store g.S.Store.files g.S.Store.faults c.args.kit.now.store c.work_lines.new.kit.store in
    let readers = c.in_ok-worker.worker.readers.items in
    let base = base_of (known_by g.F.Shelf.strict g.S.Store.files c.args.kit.now) c.args.stand.now.book (g.S.Store.opened c.args.kit.now.store) readers in
    (readers, subst (λ (o : List ℕ). AreLinesWorked base shelf store (shown c.args.stand.now) (lines_of c.args.schedule.now) (shown c.work_lines.new.stand) o c.work_lines.new.out) c.new-out.ensures c.in-Ok.ensures.worked)

pub returns-in-Ok-clause-standing : goal.returns-in-Ok-clause-standing
returns-in-Ok-clause-standing g c =
    let base = base_of (known_by g.F.Shelf.strict g.S.Store.files c.args.kit.now) c.args.stand.now.book (g.S.Store.opened c.args.kit.now.store) c.in_ok-worker.worker.readers.items in
    (base, c.in-Ok.ensures.standing)

pub returns-in-Ok-clause-kept : goal.returns-in-Ok-clause-kept
returns-in-Ok-clause-kept g c = c.work_lines.ensures.kept

pub returns-in-Ok-clause-files : goal.returns-in-Ok-clause-files
returns-in-Ok-clause-files g c = c.work_lines.ensures.files
