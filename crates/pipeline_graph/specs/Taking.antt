-- What followers make of an element.
use Rattle.std.specs.Prelude.{ℕ, List, [], slice_get, unwrap_or}
use Rattle.std.specs.Option.{option_map}
use Rattle.beam_values.specs.declared.element.Element.{Element}
use Rattle.beam_values.specs.declared.plan.Plan.{Plan}
use Rattle.beam_model.specs.Chains.{Output, chain, through}

-- what an element brings by way of one node that takes it
abbrev pub taken_by : Plan → Element → ℕ → List Output
taken_by plan e follower =
    unwrap_or (option_map (λ node. through follower node.kind (chain plan follower) e) (slice_get plan.nodes follower)) []
