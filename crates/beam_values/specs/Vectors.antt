-- The base definitions computed: which nodes stand below which, the rules of plans, firing, marks, and where a restriction is split.
use Rattle.std.specs.Prelude.{◌≡◌, ℕ, ℤ, pos, negsuc, true, false, List, [], ◌∷◌, replicate, Option, Some, None, codes, refl}
use Rattle.beam_values.specs.Checked.{graph_refusal, is_function_allowed, is_trigger_allowed}
use Rattle.beam_values.specs.Cover.{times_dead}
use Rattle.beam_values.specs.Firing.{firing, is_expired}
use Rattle.beam_values.specs.Marks.{seen_after, mark_of}
use Rattle.beam_values.specs.Nodes.{nodes_below, strategy_of}
use Rattle.beam_values.specs.Times.{least_time, final_mark}
use Rattle.beam_values.specs.Tracking.{split_point_of}
use Rattle.beam_values.specs.declared.element.Timing.TheVariants.{Early, OnTime, Late}
use Rattle.beam_values.specs.declared.fault.Cause.TheVariants.{Call}
use Rattle.beam_values.specs.declared.graph_refusal.GraphRefusal.TheVariants as refusal
use Rattle.beam_values.specs.declared.plan.Args.TheVariants.{Nothing, Number, Two}
use Rattle.beam_values.specs.declared.plan.Bar.{Bar}
use Rattle.beam_values.specs.declared.plan.Estimator.TheVariants as estimator
use Rattle.beam_values.specs.declared.plan.FnKind.TheVariants.{KeyField, Swap, Tag, JoinList}
use Rattle.beam_values.specs.declared.plan.Mode.TheVariants.{Discarding}
use Rattle.beam_values.specs.declared.plan.Node.{Node}
use Rattle.beam_values.specs.declared.plan.NodeKind.{NodeKind}
use Rattle.beam_values.specs.declared.plan.NodeKind.TheVariants.{Source, ParDo, Flatten, WindowInto, Group, Stateful, Write}
use Rattle.beam_values.specs.declared.plan.Plan.{Plan}
use Rattle.beam_values.specs.declared.plan.SourceKind.TheVariants.{Lines, Made}
use Rattle.beam_values.specs.declared.plan.StateKind.TheVariants.{Dedupe}
use Rattle.beam_values.specs.declared.plan.Strategy.TheVariants as strategy
use Rattle.beam_values.specs.declared.plan.Trigger.{Trigger}

abbrev plan : List Node → Plan
plan nodes = record { version = 1; nodes = nodes }

abbrev node : NodeKind → List ℕ → Node
node kind inputs = record { kind = kind; inputs = inputs }

abbrev trigger : Option ℕ → ℕ → ℤ → Trigger
trigger early late lateness = record { early = early; late = late; lateness = lateness; mode = Discarding; early_bars = []; late_bars = [] }

abbrev bar : ℕ → Option ℤ → Bar
bar count delay = record { count = count; delay = delay }

-- early bars, and late bars with a lateness of 100
abbrev barred : List Bar → List Bar → Trigger
barred early late = record (trigger None 1 (pos 100)) { early_bars = early; late_bars = late }

-- one on-time pane, and no late elements
abbrev default_trigger : Trigger
default_trigger = trigger None 1 (pos 0)

abbrev source : Node
source = node (Source Lines Nothing (codes "f" ∷ []) estimator.None) []

abbrev group : ℕ → Node
group input = node (Group default_trigger) (input ∷ [])

abbrev write : ℕ → Node
write input = node (Write (codes "out")) (input ∷ [])

-- Nodes.

below_the_first_of_two_branches : nodes_below (plan (source ∷ node (ParDo KeyField Nothing) (0 ∷ []) ∷ node (ParDo Swap Nothing) (0 ∷ []) ∷ group 1 ∷ write 3 ∷ write 2 ∷ [])) 1
    ≡ false ∷ false ∷ false ∷ true ∷ true ∷ false ∷ []
below_the_first_of_two_branches = refl

abbrev sessions_plan : Plan
sessions_plan = plan (source ∷ node (WindowInto (strategy.Sessions (pos 1000))) (0 ∷ []) ∷ group 1 ∷ write 2 ∷ [])

strategy_at_a_group_of_sessions : strategy_of sessions_plan 2 ≡ strategy.Sessions (pos 1000)
strategy_at_a_group_of_sessions = refl

strategy_below_a_group_of_sessions : strategy_of sessions_plan 3 ≡ strategy.Kept
strategy_below_a_group_of_sessions = refl

-- Firing of a window that ends at 60000.

before_the_end : firing default_trigger (pos 60000) (pos 59999) false 0 ≡ None
before_the_end = refl

on_time_with_nothing_unseen : firing default_trigger (pos 60000) (pos 60000) false 0 ≡ Some OnTime
on_time_with_nothing_unseen = refl

early_once_two_are_unseen : firing (trigger (Some 2) 1 (pos 0)) (pos 60000) (pos 0) false 2 ≡ Some Early
early_once_two_are_unseen = refl

late_with_too_few_unseen : firing (trigger None 3 (pos 100)) (pos 60000) (pos 60050) true 1 ≡ None
late_with_too_few_unseen = refl

late_once_the_window_expires : firing (trigger None 3 (pos 100)) (pos 60000) (pos 60100) true 1 ≡ Some Late
late_once_the_window_expires = refl

late_without_new_elements : firing (trigger None 3 (pos 100)) (pos 60000) (pos 60100) true 0 ≡ None
late_without_new_elements = refl

-- from 5000 before the end on with two unseen, or with nine at any time
abbrev early_bars : Trigger
early_bars = barred (bar 2 (Some (negsuc 4999)) ∷ bar 9 None ∷ []) []

early_bar_at_its_delay : firing early_bars (pos 60000) (pos 55000) false 2 ≡ Some Early
early_bar_at_its_delay = refl

early_bar_a_millisecond_before : firing early_bars (pos 60000) (pos 54999) false 8 ≡ None
early_bar_a_millisecond_before = refl

early_bar_without_a_delay : firing early_bars (pos 60000) (pos 0) false 9 ≡ Some Early
early_bar_without_a_delay = refl

early_bars_leave_the_on_time_pane : firing early_bars (pos 60000) (pos 60000) false 0 ≡ Some OnTime
early_bars_leave_the_on_time_pane = refl

-- with three unseen from 5 after the end on; one alone waits for the window to expire
abbrev late_bars : Trigger
late_bars = barred [] (bar 3 (Some (pos 5)) ∷ [])

late_bar_at_its_delay : firing late_bars (pos 60000) (pos 60005) true 3 ≡ Some Late
late_bar_at_its_delay = refl

late_bar_a_millisecond_before : firing late_bars (pos 60000) (pos 60004) true 3 ≡ None
late_bar_a_millisecond_before = refl

late_bars_stand_in_place_of_the_late_count : firing late_bars (pos 60000) (pos 60099) true 1 ≡ None
late_bars_stand_in_place_of_the_late_count = refl

late_bars_leave_the_last_pane : firing late_bars (pos 60000) (pos 60100) true 1 ≡ Some Late
late_bars_leave_the_last_pane = refl

-- a delay that no number of 64 bits leaves room for
late_bar_at_the_final_mark : firing (barred [] (bar 1 (Some (pos 31536000000000)) ∷ [])) (negsuc 9223372036854775807) final_mark true 1 ≡ Some Late
late_bar_at_the_final_mark = refl

-- Composite triggers of checked plans.

stairs_are_allowed : is_trigger_allowed (barred (bar 2 (Some (negsuc 4999)) ∷ bar 9 None ∷ []) (bar 3 (Some (pos 5)) ∷ [])) ≡ true
stairs_are_allowed = refl

bars_that_rise_in_delay_are_not : is_trigger_allowed (barred (bar 2 (Some (negsuc 4999)) ∷ bar 9 (Some (negsuc 0)) ∷ []) []) ≡ false
bars_that_rise_in_delay_are_not = refl

nothing_comes_after_a_bar_without_a_delay : is_trigger_allowed (barred (bar 2 None ∷ bar 9 None ∷ []) []) ≡ false
nothing_comes_after_a_bar_without_a_delay = refl

bars_of_one_count_are_not : is_trigger_allowed (barred [] (bar 2 (Some (pos 9)) ∷ bar 2 (Some (pos 5)) ∷ [])) ≡ false
bars_of_one_count_are_not = refl

an_early_bar_at_the_end_is_not : is_trigger_allowed (barred (bar 1 (Some (pos 0)) ∷ []) []) ≡ false
an_early_bar_at_the_end_is_not = refl

a_late_bar_before_the_end_is_not : is_trigger_allowed (barred [] (bar 1 (Some (negsuc 0)) ∷ [])) ≡ false
a_late_bar_before_the_end_is_not = refl

a_bar_of_no_element_is_not : is_trigger_allowed (barred (bar 0 None ∷ []) []) ≡ false
a_bar_of_no_element_is_not = refl

-- Functions of side inputs.

a_tag_of_one : is_function_allowed Tag (Number (pos 1)) ≡ true
a_tag_of_one = refl

a_tag_of_two : is_function_allowed Tag (Number (pos 2)) ≡ false
a_tag_of_two = refl

a_join_with_an_argument : is_function_allowed JoinList (Number (pos 0)) ≡ false
a_join_with_an_argument = refl

-- Dead positions: the position 9 of the first item, set aside after three attempts.

abbrev set_aside : ℕ → ℕ
set_aside offset =
    times_dead (record { node = 0; item = 0; at = 9; note = record { node = 0; item = 0; at = 0; attempt = 3; cause = Call } } ∷ [])
    (record { node = 0; item = 0; offset = offset })

set_aside_once : set_aside 9 ≡ 1
set_aside_once = refl

not_set_aside : set_aside 10 ≡ 0
not_set_aside = refl

-- a lateness of 100
not_expired_a_millisecond_before : is_expired (trigger None 1 (pos 100)) (pos 60000) (pos 60099) ≡ false
not_expired_a_millisecond_before = refl

expired_at_the_end_and_the_lateness : is_expired (trigger None 1 (pos 100)) (pos 60000) (pos 60100) ≡ true
expired_at_the_end_and_the_lateness = refl

-- Estimators, after 10 was seen, at a position with an output at 20 that declares 30.

seen_by_none : seen_after estimator.None (pos 10) (Some (pos 20)) (Some (pos 30)) ≡ pos 10
seen_by_none = refl

seen_by_monotonic : seen_after estimator.Monotonic (pos 10) (Some (pos 20)) (Some (pos 30)) ≡ pos 20
seen_by_monotonic = refl

seen_by_monotonic_never_falls : seen_after estimator.Monotonic (pos 10) (Some (pos 5)) None ≡ pos 10
seen_by_monotonic_never_falls = refl

seen_by_monotonic_without_an_output : seen_after estimator.Monotonic (pos 10) None (Some (pos 30)) ≡ pos 10
seen_by_monotonic_without_an_output = refl

seen_by_lag : seen_after (estimator.Lag (pos 5)) (pos 10) (Some (pos 20)) (Some (pos 30)) ≡ pos 20
seen_by_lag = refl

seen_by_declared : seen_after estimator.Declared (pos 10) (Some (pos 20)) (Some (pos 30)) ≡ pos 30
seen_by_declared = refl

seen_by_declared_without_a_mark : seen_after estimator.Declared (pos 10) (Some (pos 20)) None ≡ pos 10
seen_by_declared_without_a_mark = refl

mark_of_none : mark_of estimator.None (pos 61000) ≡ negsuc 9223372036854774
mark_of_none = refl

mark_of_monotonic : mark_of estimator.Monotonic (pos 61000) ≡ pos 61000
mark_of_monotonic = refl

mark_of_lag : mark_of (estimator.Lag (pos 5000)) (pos 61000) ≡ pos 56000
mark_of_lag = refl

mark_of_lag_at_the_least_time : mark_of (estimator.Lag (pos 5000)) least_time ≡ least_time
mark_of_lag_at_the_least_time = refl

mark_of_declared : mark_of estimator.Declared (pos 61000) ≡ pos 61000
mark_of_declared = refl

-- Plans, and the first rule that each breaks.

no_node : graph_refusal (plan []) ≡ Some refusal.Empty
no_node = refl

more_than_64_nodes : graph_refusal (plan (replicate 65 (node Flatten []))) ≡ Some refusal.TooMany
more_than_64_nodes = refl

an_input_that_is_higher : graph_refusal (plan (write 1 ∷ source ∷ [])) ≡ Some (refusal.Input 0)
an_input_that_is_higher = refl

a_function_of_two_inputs : graph_refusal (plan (source ∷ node (ParDo Swap Nothing) (0 ∷ 0 ∷ []) ∷ write 1 ∷ [])) ≡ Some (refusal.Arity 1)
a_function_of_two_inputs = refl

nothing_is_written : graph_refusal (plan (source ∷ [])) ≡ Some refusal.NoWrite
nothing_is_written = refl

a_write_as_an_input : graph_refusal (plan (source ∷ write 0 ∷ write 1 ∷ [])) ≡ Some (refusal.Kind 2)
a_write_as_an_input = refl

a_stateful_node : graph_refusal (plan (source ∷ node (WindowInto (strategy.Sessions (pos 1000))) (0 ∷ []) ∷ node (Stateful Dedupe Nothing false) (1 ∷ []) ∷ write 2 ∷ [])) ≡ Some (refusal.Setting 2)
a_stateful_node = refl

abbrev made : List ℕ → Node
made inputs = node (Source Made (Two 1 0) [] estimator.None) inputs

a_source_with_an_input : graph_refusal (plan (made [] ∷ made (0 ∷ []) ∷ write 1 ∷ [])) ≡ Some (refusal.SourceWithInput 1)
a_source_with_an_input = refl

no_rule_is_broken : graph_refusal sessions_plan ≡ None
no_rule_is_broken = refl

-- Splits of the restriction `[0, 100)` at a half: with 49 attempted, and before the first attempt.

half_of_what_is_left : split_point_of (record { range = record { from = 0; to = 100 }; attempted = Some 49 }) 1 2 ≡ 74
half_of_what_is_left = refl

half_before_the_first_attempt : split_point_of (record { range = record { from = 0; to = 100 }; attempted = None }) 1 2 ≡ 49
half_before_the_first_attempt = refl
