use Rattle.std.proofs.Common.{◌≡◌, List, [], map, ap, sym, subst, ◌∙◌}
use Rattle.std.specs.Prelude.{Option}
use Rattle.beam_model.specs.Positions.{items}
use Rattle.beam_values.specs.declared.file_text.FileText.{FileText}
use Rattle.beam_values.specs.declared.piece.FileLen.{FileLen}
use Rattle.beam_values.specs.declared.plan.Node.{Node}
use Rattle.beam_values.specs.declared.plan.Plan.{Plan}
use Rattle.book_core.specs.Runs.{AreLengthsOf}
use Rattle.bundle_work.specs.Reading.{AreToldReaders, length_in, readers_from}
use Rattle.bundle_work.specs.declared.reading.Reader.{Reader}
use Rattle.bundle_work.proofs.Answered.{if_ok}
use Rattle.bundle_work.proofs.Readers.{lengths_of_items, lengths_told, plan_readers}
use Rattle.combine_plan.proofs.plan.lengths.Goals as goal

pub returns-clause-exact : goal.returns-clause-exact
returns-clause-exact c =
    let nodes = c.as_slice.ensures ∙ ap (λ (p : Plan). p.nodes) c.plan.ensures.value in
    let readers = c.as_slice-2.ensures.value ∙ c.in_ok-readers.ensures ∙ ap (λ (l : List Node). readers_from 0 l c.args.files.now) nodes in
    if_ok c.lengths_of.result (λ lengths is. is ∙ ap (λ (l : List Reader). map length_in l) readers) c.lengths_of.ensures

pub returns-clause-items : goal.returns-clause-items
returns-clause-items c =
    let plan = c.args.graph.now in
    let files = c.args.files.now in
    let nodes = c.as_slice.ensures ∙ ap (λ (p : Plan). p.nodes) c.plan.ensures.value in
    let readers = c.as_slice-2.ensures.value ∙ c.in_ok-readers.ensures ∙ ap (λ (l : List Node). readers_from 0 l files) nodes in
    if_ok c.lengths_of.result
    (λ lengths is told opened are.
    let same : lengths ≡ map length_in (readers_from 0 plan.nodes files) = is ∙ ap (λ (l : List Reader). map length_in l) readers in
    let known = plan_readers told opened plan files (λ n node at. c.nodes_have_inputs_and_settings_of_their_kind.ensures.settings plan n node c.plan.ensures.checked at) are in
    record {
      each = subst (λ (l : List FileLen). AreLengthsOf (items [] plan) l) (sym same) (lengths_of_items opened plan (items [] plan) (readers_from 0 plan.nodes files) known.untold);
      told_are = λ list tells. same
          ∙ lengths_told opened plan list (items list plan) (readers_from 0 plan.nodes files) (subst (λ (f : Option (List FileText)). AreToldReaders f opened plan (readers_from 0 plan.nodes files)) tells known.told);
    })
    c.lengths_of.ensures
