use Rattle.std.proofs.Common.{◌<◌, ◌≤◌, List, length, rules, refl, sym, ◌∙◌, arith}
use Rattle.std.proofs.lemmas.Result.{err_from_is_err_and}
use Rattle.beam_ports.specs.Observed.{observed_store}
use Rattle.bundle_work.proofs.Answered.{kit_same}
use Rattle.bundle_work.specs.declared.reading.Reader.{Reader}
use Rattle.chain_exec.specs.Causes.{observed_shelf}
use Rattle.schedule_replay.specs.Reaching.{base_of}
use Rattle.schedule_replay.specs.Replays.{known_by, longest}
use Rattle.schedule_replay.specs.Shown.{shown}
use Rattle.schedule_replay.proofs.Begun.{stands_first}
use Rattle.schedule_replay.proofs.Replayed.{if_printed, if_refused, kit_of_book}
use Rattle.schedule_replay.proofs.schedule.replay.Goals as goal

pub printed-requires : goal.printed-requires
printed-requires g c =
    let begun = c.in_ok-plan.ensures in
    let known = known_by g.F.Shelf.strict g.S.Store.files c.args.kit.now in
    let stand = c.in_ok-plan.stand in
    let some : 0 < c.args.options.now.workers = omega (arith, c.requires.allowed.workers.0) in
    let kit = kit_of_book g.F.Shelf.strict g.S.Store.files g.S.Store.opened known c.args.graph c.args.files c.args.options.now stand.book c.args.kit.now begun.plan begun.lengths c.requires.kit in
    let short : length c.args.schedule.now ≤ longest = omega arith in
    let standing = λ (readers : List Reader). stands_first (base_of known stand.book (g.S.Store.opened c.args.kit.now.store) readers) stand c.args.options.now.workers some (record { plan = refl; files = refl; options = refl }) begun.slots begun.free in
    (search rules, (search rules, (begun.copied ∙ sym begun.plan, (kit, (standing, short)))))

pub returns-clause-text : goal.returns-clause-text
returns-clause-text g c =
    let begun = c.in_ok-plan.ensures in
    let known = known_by g.F.Shelf.strict g.S.Store.files c.args.kit.now in
    let shelf = observed_shelf g.F.Shelf.strict g.F.Shelf.faults c.args.kit.now.shelf c.printed.new.kit.shelf in
    let store = observed_store g.S.Store.files g.S.Store.faults c.args.kit.now.store c.printed.new.kit.store in
    let short : length c.args.schedule.now ≤ longest = omega arith in
    if_printed known c.in_ok-plan.stand.book (g.S.Store.opened c.args.kit.now.store) shelf store c.args.graph begun.plan c.args.files c.args.options.now c.args.schedule.now short (shown c.in_ok-plan.stand)
    (begun.begins known.told) c.printed.result c.printed.ensures.text

pub returns-clause-refused : goal.returns-clause-refused
returns-clause-refused g c =
    let begun = c.in_ok-plan.ensures in
    let known = known_by g.F.Shelf.strict g.S.Store.files c.args.kit.now in
    let shelf = observed_shelf g.F.Shelf.strict g.F.Shelf.faults c.args.kit.now.shelf c.printed.new.kit.shelf in
    let store = observed_store g.S.Store.files g.S.Store.faults c.args.kit.now.store c.printed.new.kit.store in
    let short : length c.args.schedule.now ≤ longest = omega arith in
    if_refused known c.in_ok-plan.stand.book (g.S.Store.opened c.args.kit.now.store) shelf store c.args.graph begun.plan c.args.files c.args.options.now c.args.schedule.now short (shown c.in_ok-plan.stand)
    (begun.begins known.told) c.printed.result c.printed.ensures.refused

pub returns-clause-kept : goal.returns-clause-kept
returns-clause-kept g c = c.printed.ensures.kept

pub returns-clause-files : goal.returns-clause-files
returns-clause-files g c = c.printed.ensures.files

pub returns-in_err-plan-clause-text : goal.returns-in_err-plan-clause-text
returns-in_err-plan-clause-text g c = let p = err_from_is_err_and c.from_residual.result c.from_residual.ensures.1 in rw p.1 tt

pub returns-in_err-plan-clause-refused : goal.returns-in_err-plan-clause-refused
returns-in_err-plan-clause-refused g c = let p = err_from_is_err_and c.from_residual.result c.from_residual.ensures.1 in rw (p.1, p.2) tt

pub returns-in_err-plan-clause-kept : goal.returns-in_err-plan-clause-kept
returns-in_err-plan-clause-kept g c = kit_same g.F.Shelf.faults g.F.Shelf.strict g.S.Store.faults g.S.Store.files g.S.Store.opened c.args.kit.now.shelf c.args.kit.now.store
