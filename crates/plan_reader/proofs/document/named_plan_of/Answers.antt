use Rattle.std.proofs.Common.{◌≡◌, ◌∙◌, ℕ, List, ap, length, map, sym, subst}
use Rattle.std.specs.Prelude.{All}
use Rattle.std.proofs.lemmas.List.{length-map}
use Rattle.serde_json.specs.View.{view}
use Rattle.beam_values.specs.declared.plan.Plan.{Plan}
use Rattle.plan_reader.specs.Placing.{HasInputsWithin, plan_names}
use Rattle.plan_reader.specs.Seen.{names_in}
use Rattle.plan_reader.specs.declared.placing.DocumentNode.{DocumentNode}
use Rattle.plan_reader.proofs.Merging.{same_plan}
use Rattle.plan_reader.proofs.Placed.{counted_alike, inputs_within}
use Rattle.plan_reader.proofs.document.named_plan_of.Goals as goal

pub graph_of-requires-clause-within : goal.graph_of-requires-clause-within
graph_of-requires-clause-within c =
    let nodes = c.in_ok-read.read in
    let counted : length (names_in c.in_ok-names.names) ≡ length nodes =
    length-map c.in_ok-names.names.keys (λ name. name.now) ∙ c.in_ok-names.ensures.each ∙ sym c.in_ok-read.ensures.each in
    subst (λ (count : ℕ). All (HasInputsWithin count) nodes) counted
    (inputs_within (names_in c.in_ok-names.names) c.in_ok-version.version (map view c.in_ok-nodes.nodes.now) nodes c.in_ok-read.ensures.nodes)

pub returns-clause-each : goal.returns-clause-each
returns-clause-each c =
    let nodes = c.in_ok-read.read in
    let names = names_in c.in_ok-names.names in
    let counted : length names ≡ length nodes =
    length-map c.in_ok-names.names.keys (λ name. name.now) ∙ c.in_ok-names.ensures.each ∙ sym c.in_ok-read.ensures.each in
    ap length c.in_ok-names-2.ensures
    ∙ ap (λ (read : List DocumentNode). length (plan_names names read)) c.as_slice.ensures
    ∙ counted_alike names nodes counted
    ∙ sym (ap (λ (plan : Plan). length plan.nodes) (same_plan c.in_ok-version.version nodes c.in_ok-graph.graph c.in_ok-graph.ensures))
