use Rattle.book_core.proofs.AllKept.{kept_always, opened_kept, reached_kept_with}
use Rattle.book_core.proofs.Gaps.{keyed_long}
use Rattle.book_core.proofs.laws.books_are_kept.Goals as goal

pub returns-clause-opening : goal.returns-clause-opening
returns-clause-opening c =
    opened_kept (λ plan checked. record {
      inputs = λ n node at. c.nodes_take_elements_of_their_strategy.ensures.inputs plan n node checked at;
      own = c.strategies_follow_kinds.ensures.own plan;
      onward = c.strategies_follow_kinds.ensures.onward plan;
      keyed = keyed_long c.stateful_nodes_have_no_sessions.ensures plan checked;
    }) (λ plan n node checked at. c.nodes_have_inputs_and_settings_of_their_kind.ensures.settings plan n node checked at)
    (λ s time allowed. c.windows_hold_their_time.ensures.of_the_kind s time allowed)

pub returns-clause-step : goal.returns-clause-step
returns-clause-step c = λ told b new slot action answer step h.
    (kept_always (λ plan checked. record {
      inputs = λ n node at. c.nodes_take_elements_of_their_strategy.ensures.inputs plan n node checked at;
      own = c.strategies_follow_kinds.ensures.own plan;
      onward = c.strategies_follow_kinds.ensures.onward plan;
      keyed = keyed_long c.stateful_nodes_have_no_sessions.ensures plan checked;
    }) (λ plan n node checked at. c.nodes_have_inputs_and_settings_of_their_kind.ensures.settings plan n node checked at)
    (λ s time allowed. c.windows_hold_their_time.ensures.of_the_kind s time allowed) told).steps b new slot action answer step h

pub returns-clause-reached : goal.returns-clause-reached
returns-clause-reached c =
    reached_kept_with (λ plan checked. record {
      inputs = λ n node at. c.nodes_take_elements_of_their_strategy.ensures.inputs plan n node checked at;
      own = c.strategies_follow_kinds.ensures.own plan;
      onward = c.strategies_follow_kinds.ensures.onward plan;
      keyed = keyed_long c.stateful_nodes_have_no_sessions.ensures plan checked;
    }) (λ plan n node checked at. c.nodes_have_inputs_and_settings_of_their_kind.ensures.settings plan n node checked at)
    (λ s time allowed. c.windows_hold_their_time.ensures.of_the_kind s time allowed)
