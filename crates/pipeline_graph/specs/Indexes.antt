-- What a graph holds beside its plan.
use Rattle.std.specs.Prelude.{◌≡◌, ℕ, List, length}
use Rattle.beam_values.specs.Checked.{IsChecked}
use Rattle.beam_values.specs.Nodes.{NodeFacts, facts_of}
use Rattle.beam_values.specs.declared.plan.Plan.{Plan}
use Rattle.pipeline_graph.specs.Followers.{IsFollowed}

-- the plan breaks no rule, and this is known of each of its nodes
pub record IsGraph (plan : Plan) (facts : List NodeFacts) (followers : List (List ℕ)) : Type 0 where
  pub checked : IsChecked plan
  pub known : facts ≡ facts_of plan.nodes
  pub followed : IsFollowed (length plan.nodes) plan.nodes followers
