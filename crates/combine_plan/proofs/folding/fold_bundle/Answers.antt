use Rattle.std.proofs.Common.{◌≤◌, ap, arith}
use Rattle.std.proofs.lemmas.Result.{err_from_is_err_and}
use Rattle.beam_values.specs.declared.piece.Piece.{Piece}
use Rattle.beam_ports.specs.Observed.{observed_store}
use Rattle.book_core.specs.Work.{worked_to}
use Rattle.chain_exec.specs.Causes.{observed_shelf}
use Rattle.combine_plan.proofs.Bundles.{bundle_refused, failed_again}
use Rattle.combine_plan.proofs.folding.fold_bundle.Goals as goal

pub returns-in_err-add_arrivals-in-Ok-clause-refused : goal.returns-in_err-add_arrivals-in-Ok-clause-refused
returns-in_err-add_arrivals-in-Ok-clause-refused g c =
    let rest = c.args.rest.now in
    let own = c.work_bundle.new.own in
    let upto = worked_to own.piece own.attempted in
    let within : upto ≤ rest.range.to = omega (arith, ap (λ (p : Piece). p.range.to) c.in-Ok.ensures.same) in
    let p = err_from_is_err_and c.from_residual.result c.from_residual.ensures.1 in
    rw (p.1, p.2)
    (bundle_refused g.C.Combiner.stands g.C.Combiner.takes g.setting.known (observed_shelf g.F.Shelf.strict g.F.Shelf.faults c.args.kit.now.shelf c.work_bundle.new.kit.shelf)
    (observed_store g.S.Store.files g.S.Store.faults c.args.kit.now.store c.work_bundle.new.kit.store) c.args.graph.now c.args.attempts rest upto c.in-Ok.receipt.arrivals c.as_slice.result.now c.as_slice.ensures
    c.in-Ok.ensures.onward within c.in-Ok.ensures.told c.args.partials.now.parts c.in_err-add_arrivals-in-Ok.field-0.0 c.in_err-add_arrivals-in-Ok.ensures.refused)

pub returns-in-Err-clause-done : goal.returns-in-Err-clause-done
returns-in-Err-clause-done g c =
    failed_again g.C.Combiner.stands g.C.Combiner.takes g.setting.known (observed_shelf g.F.Shelf.strict g.F.Shelf.faults c.args.kit.now.shelf c.work_bundle.new.kit.shelf)
    (observed_store g.S.Store.files g.S.Store.faults c.args.kit.now.store c.work_bundle.new.kit.store) c.args.graph.now c.args.attempts c.args.rest.now c.in-Err.refusal c.failed.result c.args.partials.now
    (omega arith) c.in-Err.ensures.refused c.failed.ensures
