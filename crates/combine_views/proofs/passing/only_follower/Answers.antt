use Rattle.std.proofs.Common.{◌∙◌, ap, get_or, subst}
use Rattle.beam_values.specs.declared.plan.Node.{Node}
use Rattle.beam_values.specs.declared.plan.Plan.{Plan}
use Rattle.combine_views.specs.Passing.{GoesOn}
use Rattle.combine_views.proofs.OnlyFollower.{goes_on}
use Rattle.combine_views.proofs.passing.only_follower.Goals as goal

pub returns : goal.returns
returns c =
    let plan = c.args.graph.now in
    let found = c.index-as_slice-next in
    subst (λ (node : Node). GoesOn plan c.args.from (get_or c.followers.result.now 0 0) node.kind) found.is
    (goes_on plan c.args.from c.followers.result.now c.as_slice.result.now found.result c.followers.ensures.value c.in-len1.len_at_least c.in-len1.len_below
    (c.as_slice.ensures ∙ ap (λ (p : Plan). p.nodes) c.plan.ensures.value) found.is (c.followers_name_the_node.ensures.later plan c.args.from c.followers.ensures.checked)
    (λ e. c.chains_go_by_followers.ensures plan c.args.from e c.followers.ensures.checked)
    (λ at there. c.nodes_have_inputs_and_settings_of_their_kind.ensures.settings plan at found.result c.followers.ensures.checked there))
