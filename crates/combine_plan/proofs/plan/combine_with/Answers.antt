use Rattle.std.proofs.Common.{sym, subst}
use Rattle.std.specs.Prelude.{slice_index_or, slice_set}
use Rattle.std.proofs.lemmas.Option.{slice_get_within}
use Rattle.std.proofs.lemmas.Result.{err_from_is_err_and}
use Rattle.bundle_work.specs.Kits.{observed_shelves, observed_stores}
use Rattle.chain_exec.specs.Causes.{observed_shelf}
use Rattle.combine_lift.specs.Folds.{AreFolds}
use Rattle.combine_plan.proofs.FrontKit.{front_kept, front_rises, front_strict, with_shelf}
use Rattle.combine_plan.proofs.LiftedEnds.{folded_end, unfolded_end}
use Rattle.combine_plan.proofs.plan.combine_with.Goals as goal

pub returns-in_err-partials-clause-ended : goal.returns-in_err-partials-clause-ended
returns-in_err-partials-clause-ended g c =
    let olds = c.args.kits.now in
    let news = c.fold_items.new.kits in
    let p = err_from_is_err_and c.from_residual.result c.from_residual.ensures.1 in
    rw (p.1, p.2)
    (unfolded_end (observed_shelves g.F.Shelf.strict g.F.Shelf.faults olds news) (observed_stores g.S.Store.files g.S.Store.faults olds news) c.args.graph.now c.args.options.now.attempts c.args.function
    g.C.Combiner.work c.requires.lifted g.C.Combiner.takes c.requires.takes c.in_err-partials.field-0.0 c.in_err-partials.ensures.refused)

pub write_combined-requires-clause-function : goal.write_combined-requires-clause-function
write_combined-requires-clause-function g c κs within =
    let has = c.requires.lifted.has in
    slice_get_within c.args.graph.now.nodes c.args.function has.node has.there

pub returns-clause-ended : goal.returns-clause-ended
returns-clause-ended g c =
    let olds = c.args.kits.now in
    let mids = c.fold_items.new.kits in
    let kit = slice_index_or mids 0 c.index-kits-0.result in
    let shelf = c.write_combined.new.shelf in
    let news = slice_set mids 0 (with_shelf g.F.Shelf.faults g.F.Shelf.strict g.S.Store.faults g.S.Store.files g.S.Store.opened kit shelf) in
    let folded = c.in_ok-partials.ensures.folded in
    folded_end (observed_shelves g.F.Shelf.strict g.F.Shelf.faults olds news) (observed_stores g.S.Store.files g.S.Store.faults olds news) c.args.graph.now c.args.options.now.attempts c.args.function
    g.C.Combiner.work c.requires.lifted g.C.Combiner.takes c.requires.takes g.C.Combiner.stands c.requires.taken folded.ranges folded.all c.in_ok-partials.partials folded.fold c.as_slice-rows.result.now
    (λ added stands. subst (AreFolds g.C.Combiner.work added) (sym c.as_slice-rows.ensures) (c.in_ok-rows.ensures added stands)) (observed_shelf g.F.Shelf.strict g.F.Shelf.faults kit.shelf shelf)
    (front_strict g.F.Shelf.faults g.F.Shelf.strict g.S.Store.faults g.S.Store.files g.S.Store.opened olds mids c.index-kits-0.result c.requires.some c.fold_items.ensures.kept)
    (front_rises g.F.Shelf.faults g.F.Shelf.strict g.S.Store.faults g.S.Store.files g.S.Store.opened olds mids c.index-kits-0.result shelf c.requires.some c.fold_items.ensures.kept)
    c.requires.allowed.attempts.0 c.write_combined.result c.write_combined.ensures.lasted c.write_combined.ensures.refused

pub returns-clause-kept : goal.returns-clause-kept
returns-clause-kept g c =
    front_kept g.F.Shelf.faults g.F.Shelf.strict g.S.Store.faults g.S.Store.files g.S.Store.opened c.args.kits.now c.fold_items.new.kits c.index-kits-0.result c.write_combined.new.shelf c.requires.some
    c.fold_items.ensures.kept c.write_combined.ensures.counts c.write_combined.ensures.strict
