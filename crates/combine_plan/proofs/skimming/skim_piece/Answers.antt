use Rattle.std.proofs.Common.{subst}
use Rattle.beam_ports.specs.Observed.{observed_store}
use Rattle.chain_exec.specs.Causes.{observed_shelf}
use Rattle.combine_views.specs.Skims.{IsSkim}
use Rattle.combine_plan.proofs.HeldPieces.{held_pager, left_failed, left_skimmed, left_whole, reading_later}
use Rattle.combine_plan.proofs.skimming.skim_piece.Goals as goal

pub returns-in_default-clause-left : goal.returns-in_default-clause-left
returns-in_default-clause-left g c =
    left_whole g.C.Combiner.stands g.setting.known (observed_shelf g.F.Shelf.strict g.F.Shelf.faults c.args.kit.now.shelf c.args.kit.now.shelf)
    (observed_store g.S.Store.files g.S.Store.faults c.args.kit.now.store c.args.kit.now.store) c.args.graph.now c.args.attempts c.args.rest.now c.requires.1.1.1.1.1.1.1.0 c.args.partials.now c.from-from.ensures.ordered

pub skim_lines-requires-clause-held : goal.skim_lines-requires-clause-held
skim_lines-requires-clause-held g c κs within =
    held_pager g.setting.known.told (g.S.Store.opened c.args.kit.now.store) c.args.graph.now c.args.worker.now.readers.items c.as_slice.result.now c.args.worker.now.place
    c.args.worker.now.bench.pager c.args.rest.now c.in-Some.work c.requires.1.1.1.1.1.1.1.1.1 c.as_slice.ensures.value c.in-Some.ensures

pub returns-in_err-skim-clause-reading : goal.returns-in_err-skim-clause-reading
returns-in_err-skim-clause-reading g c =
    reading_later g.setting.known.told (g.S.Store.opened c.args.kit.now.store) c.args.graph.now c.args.worker.now.readers.items c.as_slice.result.now c.args.worker.now.place c.args.worker.now.bench.pager
    c.args.rest.now c.in-Some.work c.requires.1.1.1.1.1.1.1.1.1 c.as_slice.ensures.value c.in-Some.ensures (g.S.Store.opened c.skim_lines.new.store) c.skim_lines.new.pager c.skim_lines.ensures.kept c.skim_lines.ensures.file c.skim_lines.ensures.len
    c.skim_lines.ensures.held

pub returns-in-To-clause-left : goal.returns-in-To-clause-left
returns-in-To-clause-left g c =
    left_skimmed g.C.Combiner.stands g.setting.known (observed_shelf g.F.Shelf.strict g.F.Shelf.faults c.args.kit.now.shelf c.args.kit.now.shelf)
    (observed_store g.S.Store.files g.S.Store.faults c.args.kit.now.store c.skim_lines.new.store) c.args.graph.now c.args.attempts c.args.rest.now c.requires.1.1.1.1.1.1.1.0 (g.S.Store.opened c.args.kit.now.store) c.args.worker.now.readers.items c.as_slice.result.now c.args.worker.now.place c.args.worker.now.bench.pager c.in-Some.work c.requires.1.1.1.1.1.1.1.1.1 c.as_slice.ensures.value c.in-Some.ensures c.from-from.result c.to-to.result c.in-To.at
    c.args.partials.now c.skim_lines.new.partials c.from-from.ensures.value c.to-to.ensures.value
    (subst
    (IsSkim g.C.Combiner.stands c.args.graph.now c.args.rest.now.node c.in-Some.work (g.S.Store.opened c.args.kit.now.store c.args.worker.now.bench.pager.file)
    c.args.worker.now.bench.pager.len c.from-from.result c.to-to.result (g.S.Store.faults c.args.kit.now.store) (g.S.Store.faults c.skim_lines.new.store) c.args.partials.now c.skim_lines.new.partials)
    c.in-To.is c.in_ok-skim.ensures.skimmed)
    c.behind.result c.behind.ensures

pub returns-in-To-clause-reading : goal.returns-in-To-clause-reading
returns-in-To-clause-reading g c =
    reading_later g.setting.known.told (g.S.Store.opened c.args.kit.now.store) c.args.graph.now c.args.worker.now.readers.items c.as_slice.result.now c.args.worker.now.place c.args.worker.now.bench.pager
    c.args.rest.now c.in-Some.work c.requires.1.1.1.1.1.1.1.1.1 c.as_slice.ensures.value c.in-Some.ensures (g.S.Store.opened c.skim_lines.new.store) c.skim_lines.new.pager c.skim_lines.ensures.kept c.skim_lines.ensures.file c.skim_lines.ensures.len
    c.skim_lines.ensures.held

pub returns-in-FailedAt-clause-left : goal.returns-in-FailedAt-clause-left
returns-in-FailedAt-clause-left g c =
    let both = subst
    (IsSkim g.C.Combiner.stands c.args.graph.now c.args.rest.now.node c.in-Some.work (g.S.Store.opened c.args.kit.now.store c.args.worker.now.bench.pager.file)
    c.args.worker.now.bench.pager.len c.from-from.result c.to-to.result (g.S.Store.faults c.args.kit.now.store) (g.S.Store.faults c.skim_lines.new.store) c.args.partials.now c.skim_lines.new.partials)
    c.in-FailedAt.is c.in_ok-skim.ensures.skimmed in
    left_failed g.C.Combiner.stands g.setting.known (observed_shelf g.F.Shelf.strict g.F.Shelf.faults c.args.kit.now.shelf c.args.kit.now.shelf)
    (observed_store g.S.Store.files g.S.Store.faults c.args.kit.now.store c.skim_lines.new.store) c.args.graph.now c.args.attempts c.args.rest.now c.requires.1.1.1.1.1.1.1.0 (g.S.Store.opened c.args.kit.now.store) c.args.worker.now.readers.items c.as_slice.result.now c.args.worker.now.place c.args.worker.now.bench.pager c.in-Some.work c.requires.1.1.1.1.1.1.1.1.1 c.as_slice.ensures.value c.in-Some.ensures c.from-from.result c.to-to.result c.in-FailedAt.at
    c.args.partials.now c.skim_lines.new.partials c.from-from.ensures.value c.to-to.ensures.value both.0 c.behind-in-FailedAt.result c.failed.result c.behind-in-FailedAt.ensures both.1 c.failed.ensures

pub returns-in-FailedAt-clause-reading : goal.returns-in-FailedAt-clause-reading
returns-in-FailedAt-clause-reading g c =
    reading_later g.setting.known.told (g.S.Store.opened c.args.kit.now.store) c.args.graph.now c.args.worker.now.readers.items c.as_slice.result.now c.args.worker.now.place c.args.worker.now.bench.pager
    c.args.rest.now c.in-Some.work c.requires.1.1.1.1.1.1.1.1.1 c.as_slice.ensures.value c.in-Some.ensures (g.S.Store.opened c.skim_lines.new.store) c.skim_lines.new.pager c.skim_lines.ensures.kept c.skim_lines.ensures.file c.skim_lines.ensures.len
    c.skim_lines.ensures.held
