-- From a node to its only follower.
use Rattle.std.proofs.Common.{◌≡◌, ℕ, ◌<◌, ◌≤◌, List, [], ◌∷◌, get_or, length, Option, Some, refl, sym, ap, subst, ◌∙◌, append-nil, arith}
use Rattle.std.specs.Prelude.{All, slice_get, unwrap_or}
use Rattle.std.specs.List.{flat_map}
use Rattle.std.specs.Option.{option_map}
use Rattle.std.proofs.lemmas.Option.{slice_get_read}
use Rattle.beam_values.specs.declared.element.Element.{Element}
use Rattle.beam_values.specs.declared.plan.Node.{Node}
use Rattle.beam_values.specs.declared.plan.NodeKind.{NodeKind}
use Rattle.beam_values.specs.declared.plan.NodeKind.TheVariants.{Group}
use Rattle.beam_values.specs.declared.plan.Plan.{Plan}
use Rattle.beam_values.specs.declared.plan.Trigger.{Trigger}
use Rattle.beam_model.specs.Chains.{arrives_at, chain, through}
use Rattle.pipeline_graph.specs.Followers.{followers_of}
use Rattle.pipeline_graph.specs.Rules.{HasSettings}
use Rattle.pipeline_graph.specs.Taking.{taken_by}
use Rattle.combine_views.specs.Lines.{AreAtBarrier}
use Rattle.combine_views.specs.Passing.{GoesOn}

only_one : (xs : List ℕ) → 1 ≤ length xs → length xs < 2 → xs ≡ get_or xs 0 0 ∷ []
only_one [] some few = absurd (omega arith)
only_one (x ∷ []) some few = refl
only_one (x ∷ y ∷ xs) some few = absurd (omega arith)

-- a node with one follower, as they are shown
module _ (plan : Plan) (n : ℕ) (followers : List ℕ) (nodes : List Node) (node : Node) (shown : followers ≡ followers_of plan n) (some : 1 ≤ length followers) (few : length followers < 2)
    (all : nodes ≡ plan.nodes) (is : node ≡ get_or nodes (get_or followers 0 0) node) (later : All (λ follower. (n < follower) × (follower < length plan.nodes)) (followers_of plan n))
    (brings : (e : Element) → chain plan n e ≡ flat_map (taken_by plan e) (followers_of plan n)) where
  abbrev next : ℕ
  next = get_or followers 0 0

  onward : (n < next) × (next < length plan.nodes)
  onward =
      subst (λ (xs : List ℕ). (n < get_or xs 0 0) × (get_or xs 0 0 < length plan.nodes)) (sym shown) (later 0 0 (omega (arith, ap (λ (xs : List ℕ). length xs) shown)))

  there : slice_get plan.nodes next ≡ Some node
  there =
      ap (λ (l : List Node). slice_get l next) (sym all)
      ∙ slice_get_read nodes (length nodes) next node refl (subst (λ (l : List Node). next < length l) (sym all) onward.1) is

  pub goes_on : ((at : ℕ) → slice_get plan.nodes at ≡ Some node → HasSettings node.kind) → GoesOn plan n next node.kind
  goes_on settings = record {
    later = onward.0;
    within = onward.1;
    settings = settings next there;
    all = λ e.
        brings e ∙ ap (flat_map (taken_by plan e)) (sym shown ∙ only_one followers some few) ∙ append-nil (taken_by plan e next)
        ∙ ap (λ (found : Option Node). unwrap_or (option_map (λ (x : Node). through next x.kind (chain plan next) e) found) []) there;
  }

-- from there to a Group
pub comes_to_group : (plan : Plan) (n next : ℕ) (kind : NodeKind) → GoesOn plan n next kind → (e : Element) (trigger : Trigger) (same : Element) → kind ≡ Group trigger → same ≡ e
    → AreAtBarrier (chain plan n e) (same ∷ [])
comes_to_group plan n next kind goes e trigger same group one = record {
  arrivals = record { node = next; element = same } ∷ [];
  all = sym (goes.all e ∙ ap (λ (k : NodeKind). through next k (chain plan next) e) group ∙ ap (arrives_at next) (sym one));
  are = refl;
}
