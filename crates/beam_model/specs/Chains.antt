-- Chains: where an element that a node puts out gets to, through ParDo, Flatten and WindowInto, up to Groups, Stateful nodes and Writes
-- (Beam Programming Guide, Creating a pipeline: a pipeline is a graph of transforms).
use Rattle.std.specs.Prelude.{ℕ, ◌+◌, ◌==◌, if◌then◌else◌, List, [], ◌∷◌, ◌++◌, drop, Option, Some, None}
use Rattle.std.specs.List.{flat_map}
use Rattle.beam_values.specs.Windows.{windows_of}
use Rattle.beam_values.specs.declared.element.Element.{Element}
use Rattle.beam_values.specs.declared.arrival.Arrival.{Arrival}
use Rattle.beam_values.specs.declared.plan.Node.{Node}
use Rattle.beam_values.specs.declared.plan.NodeKind.{NodeKind}
use Rattle.beam_values.specs.declared.plan.NodeKind.TheVariants.{Source, ParDo, Flatten, WindowInto, Group, Stateful, Write}
use Rattle.beam_values.specs.declared.plan.Plan.{Plan}
use Rattle.beam_model.specs.Functions.{emits}

-- an output at the end of its way: it arrives at a barrier, which is a Group, a Stateful node or a Write; or it is poison at the node of this number
pub data Output : Type 0 where
  Arrives : Arrival → Output
  PoisonAt : ℕ → Output

abbrev pub arrives_at : ℕ → Element → List Output
arrives_at node e = Arrives (record { node = node; element = e }) ∷ []

-- where the outputs of a function get to, each in turn; without outputs the element is poison at its node
abbrev pub carried : ℕ → (Element → List Output) → Option (List Element) → List Output
carried node onward None = PoisonAt node ∷ []
carried node onward (Some outputs) = flat_map onward outputs

-- what a node of this number makes of an element, where `onward` is the chain of what it puts out
abbrev pub through : ℕ → NodeKind → (Element → List Output) → Element → List Output
through node (Source work args files estimator) onward e = []
through node (ParDo work args) onward e = carried node onward (emits work args e)
through node Flatten onward e = onward e
-- once in each window of its time, ascending; time, value and pane stay
through node (WindowInto strategy) onward e = flat_map (λ span. onward (record e { span = span })) (windows_of strategy e.time)
through node (Group trigger) onward e = arrives_at node e
through node (Stateful work args log) onward e = arrives_at node e
through node (Write label) onward e = arrives_at node e

-- What an output of the node `from` brings by way of these nodes, the first of which has the number `next`: each node that names `from` as an
-- input takes it, ascending, and as often as it names it.
abbrev pub chain_from : List Node → ℕ → ℕ → Element → List Output
chain_from [] next from e = []
chain_from (node ∷ later) next from e =
    flat_map (λ input. if input == from then through next node.kind (chain_from later (next + 1) next) e else []) node.inputs
    ++ chain_from later (next + 1) from e

-- what an output of a node brings; only nodes after it take it
abbrev pub chain : Plan → ℕ → Element → List Output
chain plan n e = chain_from (drop (n + 1) plan.nodes) (n + 1) n e
