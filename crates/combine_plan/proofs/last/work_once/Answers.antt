use Rattle.std.proofs.Common.{◌++◌, map, sym, ap, ◌∙◌}
use Rattle.std.proofs.lemmas.Result.{err_from_is_err_and}
use Rattle.beam_model.specs.Chains.{Arrives}
use Rattle.beam_model.specs.Flow.{batch_outputs}
use Rattle.bundle_commit.specs.declared.job.Receipt.{Receipt}
use Rattle.combine_laws.specs.Lasting.{chains_of}
use Rattle.combine_plan.specs.Lasting.{elements_of}
use Rattle.combine_plan.proofs.LastWork.{batch_chains, call_refused_same}
use Rattle.combine_plan.proofs.last.work_once.Goals as goal

pub returns-in_err-worked-clause-refused : goal.returns-in_err-worked-clause-refused
returns-in_err-worked-clause-refused g c =
    let plan = c.args.graph.now in
    let panes = c.args.panes.now in
    let strict = g.F.Shelf.strict in
    let faults = g.F.Shelf.faults in
    let p = err_from_is_err_and c.from_residual.result c.from_residual.ensures.1 in
    rw (p.1, p.2) (call_refused_same (strict c.start_bundle.new.self) (strict c.args.shelf.now) (faults c.start_bundle.new.self) (faults c.args.shelf.now)
    (faults c.run_batch-worked.new.shelf) (faults c.finish_bundle.new.self) (batch_outputs plan c.args.function panes) (chains_of plan c.args.function (elements_of panes)) c.in_err-worked.field-0.0
    c.start_bundle.ensures.strict c.start_bundle.ensures.faults (sym c.finish_bundle.ensures.faults) (batch_chains plan c.args.function panes) c.in_err-worked.ensures.refused)

pub returns-clause-worked : goal.returns-clause-worked
returns-clause-worked g c =
    let plan = c.args.graph.now in
    let panes = c.args.panes.now in
    ap (λ (r : Receipt). map Arrives r.arrivals) c.seal.ensures
    ∙ c.in_ok-worked.ensures.staged
    ∙ ap (λ (r : Receipt). map Arrives r.arrivals ++ batch_outputs plan c.args.function panes) c.new-staging.ensures
    ∙ batch_chains plan c.args.function panes
