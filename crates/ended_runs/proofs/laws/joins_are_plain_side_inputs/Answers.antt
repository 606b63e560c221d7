use Rattle.book_core.proofs.Gaps.{keyed_long}
use Rattle.ended_runs.proofs.Sides.{outcome_sides}
use Rattle.ended_runs.proofs.laws.joins_are_plain_side_inputs.Goals as goal

pub returns : goal.returns
returns c told b o reached lengths through of storable =
    outcome_sides (record {
      windows = λ s time allowed. c.windows_hold_their_time.ensures.of_the_kind s time allowed;
      settings = λ plan n node checked at. c.nodes_have_inputs_and_settings_of_their_kind.ensures.settings plan n node checked at;
      strategies = λ plan checked. record {
        inputs = λ n node at. c.nodes_take_elements_of_their_strategy.ensures.inputs plan n node checked at;
        own = c.strategies_follow_kinds.ensures.own plan;
        onward = c.strategies_follow_kinds.ensures.onward plan;
        keyed = keyed_long c.stateful_nodes_have_no_sessions.ensures plan checked;
      };
      forward = c.allowed_functions_go_forward.ensures;
    }) told b o reached lengths through of storable
