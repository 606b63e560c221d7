-- What nodes make of an element, and to which node that goes on.
use Rattle.std.specs.Prelude.{◌≡◌, ℕ, ◌<◌, List, length}
use Rattle.std.specs.List.{flat_map}
use Rattle.beam_values.specs.declared.element.Element.{Element}
use Rattle.beam_values.specs.declared.plan.NodeKind.{NodeKind}
use Rattle.beam_values.specs.declared.plan.Plan.{Plan}
use Rattle.beam_model.specs.Chains.{Output, chain, through}
use Rattle.pipeline_graph.specs.Rules.{HasSettings}

-- what an element brings by way of a node of this kind is what these bring on from there, in turn
abbrev pub PutsOut : NodeKind → Element → List Element → Type 0
PutsOut kind e outputs = (node : ℕ) (onward : Element → List Output) → through node kind onward e ≡ flat_map onward outputs

-- all that a node puts out goes on to one later node, of this kind, and once
pub record GoesOn (plan : Plan) (from next : ℕ) (kind : NodeKind) : Type 0 where
  pub later : from < next
  pub within : next < length plan.nodes
  pub settings : HasSettings kind
  pub all : (e : Element) → chain plan from e ≡ through next kind (chain plan next) e
