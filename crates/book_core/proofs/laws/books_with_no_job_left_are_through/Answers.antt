use Rattle.book_core.proofs.AllKept.{reached_through}
use Rattle.book_core.proofs.Gaps.{keyed_long}
use Rattle.book_core.proofs.laws.books_with_no_job_left_are_through.Goals as goal

pub returns : goal.returns
returns c =
    reached_through (λ plan checked. record {
      inputs = λ n node at. c.nodes_take_elements_of_their_strategy.ensures.inputs plan n node checked at;
      own = c.strategies_follow_kinds.ensures.own plan;
      onward = c.strategies_follow_kinds.ensures.onward plan;
      keyed = keyed_long c.stateful_nodes_have_no_sessions.ensures plan checked;
    }) (λ plan n node checked at. c.nodes_have_inputs_and_settings_of_their_kind.ensures.settings plan n node checked at)
    (λ s time allowed. c.windows_hold_their_time.ensures.of_the_kind s time allowed)
