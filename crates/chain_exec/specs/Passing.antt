-- How an element passes one node (Beam Programming Guide, Creating a pipeline).
use Rattle.std.specs.Prelude.{◌≡◌, ℕ, zero, suc, ◌+◌, ◌-◌, true, List, [], ◌∷◌, ◌++◌, length, map, reverse, sum_by, slice_get, unwrap_or, Option, Some, None}
use Rattle.std.specs.List.{flat_map}
use Rattle.std.specs.Option.{option_and_then}
use Rattle.beam_values.specs.Intervals.{Interval}
use Rattle.beam_values.specs.Windows.{windows_of}
use Rattle.beam_values.specs.declared.arrival.Arrival.{Arrival}
use Rattle.beam_values.specs.declared.element.Element.{Element}
use Rattle.beam_values.specs.declared.fault.Cause.TheVariants.{Call, Read}
use Rattle.beam_values.specs.declared.plan.NodeKind.{NodeKind}
use Rattle.beam_values.specs.declared.plan.NodeKind.TheVariants.{ParDo, Flatten, WindowInto, Group, Stateful, Write}
use Rattle.beam_values.specs.declared.plan.Plan.{Plan}
use Rattle.beam_model.specs.Functions.{emits}
use Rattle.beam_ports.specs.Counts.{Rose}
use Rattle.pipeline_graph.specs.Followers.{followers_of}
use Rattle.chain_exec.specs.Causes.{ObservedShelf}
use Rattle.chain_exec.specs.Deliveries.{deliveries_to}
use Rattle.chain_exec.specs.declared.deliveries.Delivery.{Delivery}
use Rattle.chain_exec.specs.declared.refusal.ExecRefusal.{ExecRefusal}
use Rattle.chain_exec.specs.declared.refusal.ExecRefusal.TheVariants.{Faulted, NoMemory}

-- time, value and pane stay
abbrev pub in_window : Element → Interval → Element
in_window e span = record e { span = span }

-- what a node of this kind puts out of an element; None where it is poison
abbrev pub put_out : NodeKind → Element → Option (List Element)
put_out (ParDo work args) e = emits work args e
put_out Flatten e = Some (e ∷ [])
put_out (WindowInto strategy) e = Some (map (in_window e) (windows_of strategy e.time))
put_out _ e = Some []

-- what stays at it: at a barrier the element itself
abbrev pub kept_at : ℕ → NodeKind → Element → List Arrival
kept_at node (Group trigger) e = record { node = node; element = e } ∷ []
kept_at node (Stateful work args log) e = record { node = node; element = e } ∷ []
kept_at node (Write label) e = record { node = node; element = e } ∷ []
kept_at node _ e = []

-- An element passed a node of this kind: what the node put out is on its way to each follower, on top of what was before, and what stays there was staged.
abbrev pub Passes : ℕ → NodeKind → List ℕ → Element → List Delivery → List Delivery → List Arrival → List Arrival → Type 0
Passes node kind followers e stack_before stack_after staged_before staged_after =
    (outputs : List Element) × (put_out kind e ≡ Some outputs)
    × (stack_after ≡ stack_before ++ reverse (flat_map (deliveries_to followers) outputs))
    × (staged_after ≡ staged_before ++ kept_at node kind e)

-- it did not: the function of the node failed, and was counted; over a strict shelf on poison alone
abbrev pub IsPassRefused : ObservedShelf → ℕ → NodeKind → Element → ExecRefusal → Type 0
IsPassRefused shelf node kind e (Faulted at Call) = Rose shelf.before shelf.after × (at ≡ node) × (shelf.strict ≡ true → put_out kind e ≡ None)
IsPassRefused shelf node kind e (Faulted at Read) = ⊥
IsPassRefused shelf node kind e NoMemory = Unit {0}

-- what the node of this number puts out
abbrev pub put_out_at : Plan → ℕ → Element → List Element
put_out_at plan node e = unwrap_or (option_and_then (λ at. put_out at.kind e) (slice_get plan.nodes node)) []

-- how many nodes an element gets to from a node on, where so many come after it
unfoldable pub stops_from : ℕ → Plan → Delivery → ℕ
stops_from zero plan delivery = 1
stops_from (suc later) plan delivery =
    1 + sum_by (stops_from later plan) (flat_map (deliveries_to (followers_of plan delivery.node)) (put_out_at plan delivery.node delivery.element))

abbrev pub stops_of : Plan → Delivery → ℕ
stops_of plan delivery = stops_from (length plan.nodes - delivery.node) plan delivery

abbrev pub stops_of_all : Plan → List Delivery → ℕ
stops_of_all plan stack = sum_by (stops_of plan) stack
