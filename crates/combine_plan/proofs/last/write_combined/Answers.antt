use Rattle.std.proofs.Common.{◌≡◌, List, map}
use Rattle.std.proofs.lemmas.Result.{IfErr-weaker, IfOk-weaker}
use Rattle.beam_values.specs.declared.arrival.Arrival.{Arrival}
use Rattle.beam_model.specs.Chains.{Arrives}
use Rattle.chain_exec.specs.Causes.{observed_shelf}
use Rattle.combine_laws.specs.Lasting.{HasLasted, chains_of}
use Rattle.combine_plan.specs.Lasting.{ArePanesSpent, IsLastRefused, elements_of}
use Rattle.combine_plan.proofs.LastWork.{rows_lasted, rows_refused}
use Rattle.combine_plan.proofs.last.write_combined.Goals as goal

pub returns-clause-lasted : goal.returns-clause-lasted
returns-clause-lasted g c =
    let plan = c.args.graph.now in
    let function = c.args.function in
    let rows = c.args.rows.now in
    let worked = c.as_slice-2.result.now in
    IfOk-weaker c.work_panes.result (λ (arrivals : List Arrival). map Arrives arrivals ≡ chains_of plan function (elements_of worked)) (HasLasted plan function rows)
    (rows_lasted plan function rows c.in_ok-panes.panes c.as_slice.result.now worked c.in_ok-panes.ensures.each c.as_slice.ensures c.as_slice-2.ensures c.look_at_panes.ensures) c.work_panes.ensures.worked

pub returns-clause-refused : goal.returns-clause-refused
returns-clause-refused g c =
    let plan = c.args.graph.now in
    let function = c.args.function in
    let rows = c.args.rows.now in
    let worked = c.as_slice-2.result.now in
    let shelf = observed_shelf g.F.Shelf.strict g.F.Shelf.faults c.args.shelf.now c.work_panes.new.shelf in
    IfErr-weaker c.work_panes.result (ArePanesSpent shelf plan function c.args.attempts (elements_of worked)) (IsLastRefused shelf plan function c.args.attempts rows)
    (rows_refused plan function rows c.in_ok-panes.panes c.as_slice.result.now worked c.in_ok-panes.ensures.each c.as_slice.ensures c.as_slice-2.ensures c.look_at_panes.ensures shelf c.args.attempts)
    c.work_panes.ensures.refused
