use Rattle.std.proofs.Common.{◌≡◌, ℤ, to_z, of_z, w64, refl, sym, ap, subst, ◌∙◌, arith}
use Rattle.std.proofs.lemmas.Int.{ints}
use Rattle.beam_model.specs.Plans.{panes_plan}
use Rattle.beam_ports.specs.Observed.{observed_sink}
use Rattle.command_words.specs.Commands.{Panes}
use Rattle.run_engine.specs.Kits.{KeepsKit, observed_kits}
use Rattle.beam_command.proofs.Asked.{pipeline_end}
use Rattle.beam_command.proofs.Kept.{all_same, if_some}
use Rattle.beam_command.proofs.Stores.{first_is_seen}
use Rattle.command_ends.proofs.Tries.{sink_same}
use Rattle.command_ends.specs.Retrying.{TriesSink}
use Rattle.command_ends.specs.declared.status.Status.TheVariants as status
use Rattle.run_engine.specs.declared.run_end.RunEnd.{RunEnd}
use Rattle.beam_command.proofs.top.run_panes.Goals as goal

pub returns-in-Ok-clause-ends : goal.returns-in-Ok-clause-ends
returns-in-Ok-clause-ends g c =
    let same : to_z w64 (of_z w64 c.args.size) ≡ c.args.size = omega (arith, ints) in
    let seen = observed_kits g.F.Shelf g.S.Store c.args.kits.now c.run_graph.new.kits in
    let plan : c.in-Ok.graph ≡ panes_plan c.args.file.now c.args.size = c.in-Ok.ensures ∙ ap (λ (size : ℤ). panes_plan c.args.file.now size) same in
    let first = first_is_seen g.S.Store (KeepsKit g.F.Shelf g.S.Store) c.args.kits.now c.run_graph.new.kits c.requires.some c.run_graph.ensures.kept in
    pipeline_end seen.shelf seen.store.files seen.store.after seen.store.after seen.stores seen.stores (observed_sink g.W.Sink.faults g.W.Sink.taken c.args.out.now c.run_graph.new.out)
    (Panes c.args.file.now c.args.size c.args.options.now) c.args.options.now c.in-Ok.graph 0 (omega arith) (λ s refused. refused) plan first.0 first.1 plan c.run_graph.result.status
    c.run_graph.result.outcome c.run_graph.ensures.ends

pub returns-in-Ok-clause-first_plan : goal.returns-in-Ok-clause-first_plan
returns-in-Ok-clause-first_plan g c =
    let same : to_z w64 (of_z w64 c.args.size) ≡ c.args.size = omega (arith, ints) in
    if_some _ _ (λ o is. is.0 ∙ (c.in-Ok.ensures ∙ ap (λ (size : ℤ). panes_plan c.args.file.now size) same)) c.run_graph.result.outcome c.run_graph.ensures.outcome

pub returns-in-Ok-clause-opened : goal.returns-in-Ok-clause-opened
returns-in-Ok-clause-opened g c = if_some _ _ (λ o is. is.1) c.run_graph.result.outcome c.run_graph.ensures.outcome

pub returns-in-Err-clause-kept : goal.returns-in-Err-clause-kept
returns-in-Err-clause-kept g c = all_same g.F.Shelf g.S.Store c.args.kits.now

pub returns-in-Err-clause-writes : goal.returns-in-Err-clause-writes
returns-in-Err-clause-writes g c =
    subst (λ (end : RunEnd). TriesSink g.W.Sink c.args.options.now.attempts c.args.out.now c.args.out.now end.status) (sym c.ended.ensures)
    (sink_same g.W.Sink c.args.options.now.attempts c.args.out.now c.args.out.now status.NoMemory refl c.requires.allowed.attempts.0 (λ is. cc))
