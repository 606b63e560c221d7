-- The estimators of a checked plan are allowed.
use Rattle.std.proofs.Common.{◌≡◌, ℕ, true, refl, sym, ap}
use Rattle.std.specs.Prelude.{slice_get, unwrap_or, Option, Some, None}
use Rattle.std.specs.Option.{option_map}
use Rattle.beam_values.specs.Checked.{IsChecked, is_estimator_allowed}
use Rattle.beam_values.specs.declared.plan.Estimator.TheVariants as estimator
use Rattle.beam_values.specs.declared.plan.Node.{Node}
use Rattle.beam_values.specs.declared.plan.NodeKind.{NodeKind}
use Rattle.beam_values.specs.declared.plan.NodeKind.TheVariants.{Source, ParDo, Flatten, WindowInto, Group, Stateful, Write}
use Rattle.beam_values.specs.declared.plan.Plan.{Plan}
use Rattle.beam_model.specs.Holds.{estimator_in, estimator_of}
use Rattle.watermarks.proofs.CheckedNodes.{estimator_allowed}

allowed_kind : (plan : Plan) (n : ℕ) (node : Node) (kind : NodeKind) → IsChecked plan → slice_get plan.nodes n ≡ Some node → node.kind ≡ kind → is_estimator_allowed (estimator_in kind) ≡ true
allowed_kind plan n node (Source work args files e) checked at is = estimator_allowed plan n node work args files e checked at is
allowed_kind plan n node (ParDo work args) checked at is = refl
allowed_kind plan n node Flatten checked at is = refl
allowed_kind plan n node (WindowInto strategy) checked at is = refl
allowed_kind plan n node (Group trigger) checked at is = refl
allowed_kind plan n node (Stateful work args log) checked at is = refl
allowed_kind plan n node (Write label) checked at is = refl

pub allowed_in : (plan : Plan) (n : ℕ) (node : Node) → IsChecked plan → Some node ≡ slice_get plan.nodes n → is_estimator_allowed (estimator_in node.kind) ≡ true
allowed_in plan n node checked at = allowed_kind plan n node node.kind checked (sym at) refl

pub estimator_some : (plan : Plan) (n : ℕ) (node : Node) → Some node ≡ slice_get plan.nodes n → estimator_of plan n ≡ estimator_in node.kind
estimator_some plan n node at = ap (λ (o : Option Node). unwrap_or (option_map (λ (x : Node). estimator_in x.kind) o) estimator.None) (sym at)

pub estimator_none : (plan : Plan) (n : ℕ) → None ≡ slice_get plan.nodes n → estimator_of plan n ≡ estimator.None
estimator_none plan n at = ap (λ (o : Option Node). unwrap_or (option_map (λ (x : Node). estimator_in x.kind) o) estimator.None) (sym at)
