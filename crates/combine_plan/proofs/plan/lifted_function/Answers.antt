use Rattle.std.proofs.Common.{◌∙◌, ap}
use Rattle.beam_values.specs.declared.plan.Plan.{Plan}
use Rattle.combine_plan.proofs.FoundFunction.{is_function, lifted_at}
use Rattle.combine_plan.proofs.plan.lifted_function.Goals as goal

pub unreachable-requires-in_default-kind : goal.unreachable-requires-in_default-kind
unreachable-requires-in_default-kind c =
    let nodes = c.as_slice-nodes.ensures ∙ ap (λ (plan : Plan). plan.nodes) c.plan.ensures.value in
    is_function c.args.graph.now c.requires c.as_slice-nodes.result.now c.in-Some.group c.followers.result.now nodes c.in-Some.ensures.group c.followers.ensures.value _ c.in_default-kind.not-ParDo

pub returns : goal.returns
returns c =
    let nodes = c.as_slice-nodes.ensures ∙ ap (λ (plan : Plan). plan.nodes) c.plan.ensures.value in
    lifted_at c.args.graph.now c.requires c.as_slice-nodes.result.now c.in-Some.group c.followers.result.now nodes c.in-Some.ensures.group c.followers.ensures.value _ c.in-ParDo.work c.in-ParDo.args
    c.plan.ensures.checked c.in-ParDo.is
