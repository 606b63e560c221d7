-- What a node asks of its settings, judged by what is known of the nodes before it: the strategies of what they put out, and how many files they read.
use Rattle.std.specs.Prelude.{ℕ, Bool, List, ◌&&◌, true, not}
use Rattle.std.specs.List.{list_all}
use Rattle.beam_values.specs.Checked.{is_estimator_allowed, is_function_allowed, is_kept, is_same_strategy, is_session, is_source_allowed, is_state_allowed, is_trigger_allowed}
use Rattle.beam_values.specs.Nodes.{NodeFacts, facts_at, first_strategy}
use Rattle.beam_values.specs.Strategies.{is_allowed}
use Rattle.beam_values.specs.declared.plan.NodeKind.{NodeKind}
use Rattle.beam_values.specs.declared.plan.NodeKind.TheVariants.{Source, ParDo, Flatten, WindowInto, Group, Stateful, Write}

-- whether these inputs put out elements of one strategy
abbrev pub agrees_in : List NodeFacts → List ℕ → Bool
agrees_in facts inputs = list_all (λ input. is_same_strategy (facts_at facts input).onward (first_strategy facts inputs)) inputs

-- what a node asks of its settings, where the sources before it read `earlier` files
abbrev pub is_set_after : List NodeFacts → ℕ → NodeKind → List ℕ → Bool
is_set_after facts earlier (Source work args files estimator) inputs = is_source_allowed earlier work args files && is_estimator_allowed estimator
is_set_after facts earlier (ParDo work args) inputs = is_function_allowed work args
is_set_after facts earlier Flatten inputs = agrees_in facts inputs
is_set_after facts earlier (WindowInto strategy) inputs = is_allowed strategy && not (is_kept strategy)
is_set_after facts earlier (Group trigger) inputs = is_trigger_allowed trigger
is_set_after facts earlier (Stateful work args log) inputs = is_state_allowed work args && not (is_session (first_strategy facts inputs))
is_set_after facts earlier (Write label) inputs = true
