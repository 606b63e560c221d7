use Rattle.std.proofs.Common.{◌≡◌, ◌≤◌, List, length, map, ap, rules, sym, subst, ◌∙◌}
use Rattle.beam_values.specs.declared.plan.Node.{Node}
use Rattle.beam_values.specs.declared.plan.Plan.{Plan}
use Rattle.bundle_work.specs.Reading.{AreReaders, length_in, readers_from}
use Rattle.bundle_work.specs.declared.reading.Reader.{Reader}
use Rattle.bundle_work.proofs.PieceReads.{reading_none}
use Rattle.bundle_work.proofs.Readers.{plan_readers}
use Rattle.bundle_work.proofs.bundles.Worker.new.Goals as goal

pub returns-clause-reading : goal.returns-clause-reading
returns-clause-reading c = λ told opened are.
    let plan = c.args.graph.now in
    let files = c.args.files.now in
    let items = c.in_ok-readers.readers.items in
    let nodes = c.as_slice.ensures ∙ ap (λ (p : Plan). p.nodes) c.plan.ensures.value in
    let is : items ≡ readers_from 0 plan.nodes files = c.in_ok-readers.ensures ∙ ap (λ (l : List Node). readers_from 0 l files) nodes in
    let all = subst (λ (l : List Reader). AreReaders told opened plan l) (sym is)
    (plan_readers told opened plan files (λ n node at. c.nodes_have_inputs_and_settings_of_their_kind.ensures.settings plan n node c.plan.ensures.checked at) are) in
    let low : length items ≤ c.len-place.result = search rules in
    reading_none told opened plan items c.len-place.result c.in_ok-new.field-0.pager all low

pub returns-clause-lengths : goal.returns-clause-lengths
returns-clause-lengths c =
    let nodes = c.as_slice.ensures ∙ ap (λ (p : Plan). p.nodes) c.plan.ensures.value in
    ap (map length_in) (c.in_ok-readers.ensures ∙ ap (λ (l : List Node). readers_from 0 l c.args.files.now) nodes)
