-- Every node of a checked plan keeps values flat and windows placed.
use Rattle.std.proofs.Common.{List, [], ◌∷◌}
use Rattle.std.specs.List.{AllByRecursion}
use Rattle.beam_values.specs.Checked.{IsChecked}
use Rattle.beam_values.specs.Intervals.{Interval}
use Rattle.beam_values.specs.Windows.{windows_of}
use Rattle.beam_values.specs.declared.element.Element.{Element}
use Rattle.beam_values.specs.declared.plan.Node.{Node}
use Rattle.beam_values.specs.declared.plan.NodeKind.{NodeKind}
use Rattle.beam_values.specs.declared.plan.NodeKind.TheVariants.{Source, ParDo, Flatten, WindowInto, Group, Stateful, Write}
use Rattle.beam_values.specs.declared.plan.Plan.{Plan}
use Rattle.pipeline_graph.specs.Rules.{HasSettings}
use Rattle.pipeline_graph.proofs.CheckedPlans.{node_settings}
use Rattle.combine_laws.proofs.FlatValues.{IsFlatElement, emits_flat}
use Rattle.combine_laws.proofs.Keeping.{IsKeptBy}
use Rattle.combine_laws.proofs.Lists.{each_there}
use Rattle.combine_laws.proofs.Places.{IsPlaced, emits_placed, windows_placed}

flat_by_kind : (kind : NodeKind) → HasSettings kind → IsKeptBy IsFlatElement kind
flat_by_kind (Source work args files estimator) set = tt
flat_by_kind (ParDo work args) set = emits_flat work args set
flat_by_kind Flatten set = tt
flat_by_kind (WindowInto strategy) set = λ e flat. each_flat e flat (windows_of strategy e.time)
  where
    each_flat : (e : Element) → IsFlatElement e → (spans : List Interval) → AllByRecursion (λ span. IsFlatElement (record e { span = span })) spans
    each_flat e flat [] = tt
    each_flat e flat (span ∷ spans) = (flat, each_flat e flat spans)
flat_by_kind (Group trigger) set = tt
flat_by_kind (Stateful work args log) set = tt
flat_by_kind (Write label) set = tt

placed_by_kind : (kind : NodeKind) → HasSettings kind → IsKeptBy IsPlaced kind
placed_by_kind (Source work args files estimator) set = tt
placed_by_kind (ParDo work args) set = λ e placed. emits_placed e placed work args
placed_by_kind Flatten set = tt
placed_by_kind (WindowInto strategy) set = λ e placed. windows_placed strategy e.time set.0
placed_by_kind (Group trigger) set = tt
placed_by_kind (Stateful work args log) set = tt
placed_by_kind (Write label) set = tt

pub flat_by_plan : (plan : Plan) → IsChecked plan → AllByRecursion (λ node. IsKeptBy IsFlatElement node.kind) plan.nodes
flat_by_plan plan checked = each_there (λ (node : Node). IsKeptBy IsFlatElement node.kind) plan.nodes (λ n node there. flat_by_kind node.kind (node_settings plan n node checked there))

pub placed_by_plan : (plan : Plan) → IsChecked plan → AllByRecursion (λ node. IsKeptBy IsPlaced node.kind) plan.nodes
placed_by_plan plan checked = each_there (λ (node : Node). IsKeptBy IsPlaced node.kind) plan.nodes (λ n node there. placed_by_kind node.kind (node_settings plan n node checked there))
