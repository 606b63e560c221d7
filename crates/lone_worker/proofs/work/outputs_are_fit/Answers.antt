use Rattle.book_core.proofs.Gaps.{keyed_long}
use Rattle.bundle_work.proofs.Claiming.{source_node}
use Rattle.bundle_work.proofs.PieceWork.{emission_fit}
use Rattle.lone_worker.proofs.work.outputs_are_fit.Goals as goal

pub returns : goal.returns
returns c = λ source some emitted timely.
    let plan = c.args.graph.now in
    let checked = c.plan-plan.ensures.checked in
    let at = source_node plan source some in
    emission_fit (λ s time allowed. c.windows_hold_their_time.ensures.of_the_kind s time allowed) plan
    (record {
      inputs = λ n node here. c.nodes_take_elements_of_their_strategy.ensures.inputs plan n node checked here;
      own = c.strategies_follow_kinds.ensures.own plan;
      onward = c.strategies_follow_kinds.ensures.onward plan;
      keyed = keyed_long c.stateful_nodes_have_no_sessions.ensures plan checked;
    })
    (λ n node here. c.nodes_have_inputs_and_settings_of_their_kind.ensures.settings plan n node checked here) source at.0 at.1 at.2 at.3 emitted timely
