use Rattle.std.proofs.Common.{slice_get, sym, ap, subst, ◌∙◌}
use Rattle.std.specs.Option.{option_copied}
use Rattle.beam_values.specs.declared.plan.NodeKind.{NodeKind}
use Rattle.beam_values.specs.declared.plan.Plan.{Plan}
use Rattle.pipeline_graph.specs.Rules.{HasSettings}
use Rattle.pipeline_graph.proofs.CheckedPlans.{node_settings}
use Rattle.chain_exec.proofs.key.called_at.Goals as goal

pub returns-clause-allowed : goal.returns-clause-allowed
returns-clause-allowed c =
    let here = ap (λ (p : Plan). slice_get p.nodes c.args.node) (sym c.plan.ensures.value) ∙ sym c.get.ensures.value ∙ ap option_copied c.in-Some.is in
    let settings = node_settings c.args.graph.now c.args.node c.in-Some.at.now c.plan.ensures.checked here in
    subst (λ (kind : NodeKind). HasSettings kind) c.in-Stateful.is settings
