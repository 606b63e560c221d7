use Rattle.std.proofs.Common.{List, ap, ◌∙◌, subst}
use Rattle.std.specs.Prelude.{Option}
use Rattle.beam_values.specs.declared.file_text.FileText.{FileText}
use Rattle.beam_values.specs.declared.plan.Node.{Node}
use Rattle.beam_values.specs.declared.plan.Plan.{Plan}
use Rattle.bundle_work.specs.Openings.{AreOpened}
use Rattle.run_engine.specs.Openings.{AreNamesRefused}
use Rattle.run_engine.proofs.Opens.{names_of}
use Rattle.run_engine.proofs.opening.open_kit.Goals as goal

pub returns-in-Err-clause-refused : goal.returns-in-Err-clause-refused
returns-in-Err-clause-refused g c =
    let nodes = c.as_slice-nodes.ensures ∙ ap (λ (p : Plan). p.nodes) c.plan.ensures.value in
    subst (λ (f : Option (List FileText)). AreNamesRefused f c.args.first.now (names_of c.args.graph.now.nodes) c.args.number c.in-Err.refusal) (ap g.S.Store.files c.new-store.ensures.is)
    (subst (λ (l : List Node). AreNamesRefused (g.S.Store.files c.new-store.result.store.now) c.args.first.now (names_of l) c.args.number c.in-Err.refusal) nodes c.in-Err.ensures.refused)

pub returns-in-Ok-clause-opened : goal.returns-in-Ok-clause-opened
returns-in-Ok-clause-opened g c =
    let nodes = c.as_slice-nodes.ensures ∙ ap (λ (p : Plan). p.nodes) c.plan.ensures.value in
    let store = c.open_nodes.new.store.store.now in
    subst (λ (l : List Node). AreOpened (g.S.Store.files store) (g.S.Store.opened store) (names_of l) c.in-Ok.files) nodes c.in-Ok.ensures.opened
