-- Elements on their way to nodes that take them, and their outputs from there.
use Rattle.std.specs.Prelude.{ℕ, List, [], ◌∷◌, Bool, true, false, map, reverse}
use Rattle.std.specs.List.{flat_map}
use Rattle.beam_values.specs.declared.element.Element.{Element}
use Rattle.beam_values.specs.declared.plan.Plan.{Plan}
use Rattle.beam_model.specs.Chains.{Output}
use Rattle.beam_model.specs.Spread.{from_source}
use Rattle.dofn_traits.specs.Calls.{timed_value}
use Rattle.dofn_traits.specs.declared.calls.Timed.{Timed}
use Rattle.pipeline_graph.specs.Taking.{taken_by}
use Rattle.chain_exec.specs.declared.deliveries.Delivery.{Delivery}

-- an element on its way to each of these nodes
abbrev pub deliveries_to : List ℕ → Element → List Delivery
deliveries_to nodes e = map (λ node. record { node = node; element = e }) nodes

-- a delivery alone, if it goes on
abbrev pub on_way : Bool → Delivery → List Delivery
on_way true delivery = delivery ∷ []
on_way false delivery = []

-- a value that a source emitted, as an element
abbrev pub element_of : Timed → Element
element_of timed = from_source (timed_value timed)

-- the outputs of an element that its node takes
abbrev pub outputs_of_delivery : Plan → Delivery → List Output
outputs_of_delivery plan delivery = taken_by plan delivery.element delivery.node

-- the outputs of a stack of deliveries; the last one is on top
abbrev pub outputs_of_stack : Plan → List Delivery → List Output
outputs_of_stack plan stack = flat_map (outputs_of_delivery plan) (reverse stack)
