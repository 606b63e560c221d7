use Rattle.std.proofs.Common.{Some, refl, sym, subst, ◌∙◌, arith}
use Rattle.beam_ports.specs.Observed.{observed_sink}
use Rattle.command_words.specs.Commands.{Drill}
use Rattle.run_engine.specs.Kits.{KeepsKit, ObservedKits, observed_kits}
use Rattle.beam_command.specs.Kits.{kits_for, without_files}
use Rattle.beam_command.specs.declared.pipeline.Report.TheVariants.{Summary}
use Rattle.beam_command.proofs.Asked.{pipeline_end}
use Rattle.beam_command.proofs.DrillEnds.{drill_end, got_map}
use Rattle.beam_command.proofs.Kept.{all_same, if_some}
use Rattle.beam_command.proofs.Stores.{first_is_seen}
use Rattle.command_ends.proofs.Tries.{sink_same}
use Rattle.command_ends.specs.Retrying.{TriesSink}
use Rattle.command_ends.specs.declared.status.Status.TheVariants as status
use Rattle.run_engine.specs.declared.run_end.RunEnd.{RunEnd}
use Rattle.beam_command.proofs.top.run_drill.Goals as goal

pub returns-in-Ok-clause-ends : goal.returns-in-Ok-clause-ends
returns-in-Ok-clause-ends g c =
    let kits = c.args.kits.now in
    let news = c.run_graph.new.kits in
    let options = c.args.options.now in
    let out = observed_sink g.W.Sink.faults g.W.Sink.taken c.args.out.now c.run_graph.new.out in
    let own = observed_kits g.F.Shelf g.S.Store kits news in
    let seen : ObservedKits = kits_for (Some (Drill c.args.count c.args.number options)) own in
    let first = first_is_seen g.S.Store (KeepsKit g.F.Shelf g.S.Store) kits news c.requires.some c.run_graph.ensures.kept in
    pipeline_end seen.shelf seen.store.files seen.store.after seen.store.after seen.stores seen.stores out (Drill c.args.count c.args.number options) options c.in-Ok.graph 0 (omega arith)
    (λ s refused. refused) c.in-Ok.ensures (without_files first.0) (got_map without_files own.stores 0 first.0 first.1) c.in-Ok.ensures c.run_graph.result.status c.run_graph.result.outcome
    (drill_end c.args.count c.args.number options own out c.in-Ok.graph options Summary 0 c.in-Ok.ensures c.run_graph.result.status c.run_graph.result.outcome c.run_graph.ensures.ends)

pub returns-in-Ok-clause-first_plan : goal.returns-in-Ok-clause-first_plan
returns-in-Ok-clause-first_plan g c = if_some _ _ (λ o is. is.0 ∙ c.in-Ok.ensures) c.run_graph.result.outcome c.run_graph.ensures.outcome

pub returns-in-Ok-clause-opened : goal.returns-in-Ok-clause-opened
returns-in-Ok-clause-opened g c = if_some _ _ (λ o is. is.1) c.run_graph.result.outcome c.run_graph.ensures.outcome

pub returns-in-Err-clause-kept : goal.returns-in-Err-clause-kept
returns-in-Err-clause-kept g c = all_same g.F.Shelf g.S.Store c.args.kits.now

pub returns-in-Err-clause-writes : goal.returns-in-Err-clause-writes
returns-in-Err-clause-writes g c =
    subst (λ (end : RunEnd). TriesSink g.W.Sink c.args.options.now.attempts c.args.out.now c.args.out.now end.status) (sym c.ended.ensures)
    (sink_same g.W.Sink c.args.options.now.attempts c.args.out.now c.args.out.now status.NoMemory refl c.requires.allowed.attempts.0 (λ is. cc))
