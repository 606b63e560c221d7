use Rattle.std.proofs.Common.{◌≤◌, get_or, set, refl, sym, ap, subst, ◌∙◌, arith}
use Rattle.std.specs.Prelude.{Option, List}
use Rattle.beam_values.specs.declared.file_text.FileText.{FileText}
use Rattle.beam_values.specs.declared.plan.Plan.{Plan}
use Rattle.command_words.specs.Commands.{Run}
use Rattle.bundle_work.specs.declared.kit.Kit.{Kit}
use Rattle.run_engine.proofs.Opens.{become_onward}
use Rattle.run_engine.specs.Kits.{KeepsKit}
use Rattle.run_engine.specs.declared.run_end.RunEnd.{RunEnd}
use Rattle.beam_command.specs.Asking.{IsPlanOf}
use Rattle.beam_command.specs.Ends.{IsPipelineEnd}
use Rattle.beam_command.specs.Kits.{KeepsShelf, observed_at}
use Rattle.beam_command.proofs.Asked.{file_end, refused_end}
use Rattle.beam_command.proofs.Kept.{become_first, become_weaker, first_got, if_none, if_some, keeps_onward, keeps_same, store_used}
use Rattle.command_ends.proofs.Tries.{sink_same}
use Rattle.command_ends.specs.PlanFiles.{IsPlanRefused}
use Rattle.command_ends.specs.Retrying.{TriesSink}
use Rattle.command_ends.specs.declared.status.Status.{Status}
use Rattle.run_engine.specs.Openings.{TriesKits}
use Rattle.beam_ports.specs.Observed.{observed_store}
use Rattle.beam_command.proofs.Tried.{first_alone, first_then, plan_only}
use Rattle.beam_command.proofs.top.run_file.Goals as goal

pub returns-in-Ok : goal.returns-in-Ok
returns-in-Ok g c =
    let read = c.in-Ok.ensures in
    let files = g.S.Store.files in
    let faults = g.S.Store.faults in
    let some = c.index-kits-0.result in
    let first = get_or c.args.kits.now 0 some in
    let used : Kit _ _ = record { shelf = first.shelf; store = c.read_plan_file.new.store; files = first.files } in
    let kits : List (Kit _ _) = set c.args.kits.now 0 used in
    let Own = KeepsKit g.F.Shelf g.S.Store in
    record {
      ends = file_end g.F.Shelf g.S.Store g.W.Sink c.args.out.now c.run_graph.new.out c.args.options.now c.args.plan.now c.read_plan_file.new.store some c.in-Ok.read.graph
          c.in-Ok.read.failed c.requires.allowed c.args.kits.now c.run_graph.new.kits c.run_graph.result.status c.run_graph.result.outcome c.requires.some read.told read.counts
          read.failed read.plan
          (become_weaker Own (λ old new. faults old.store ≤ faults new.store) (λ old new is. is.reading.counts) kits c.run_graph.new.kits c.run_graph.ensures.kept) c.run_graph.ensures.ends;
      first_plan = if_some _ _ (λ o is.
          subst (λ (told : Option (List FileText)). IsPlanOf told (Run c.args.plan.now c.args.options.now) o.plan) (first_got files c.args.kits.now some c.requires.some)
          (subst (λ (p : Plan). IsPlanOf (files first.store) (Run c.args.plan.now c.args.options.now) p) (sym is.0) read.plan)) c.run_graph.result.outcome c.run_graph.ensures.outcome;
      opened = if_some _ _ (λ o is. is.1) c.run_graph.result.outcome c.run_graph.ensures.outcome;
      idle = λ none. become_onward KeepsShelf KeepsShelf KeepsShelf (λ old mid new one two. two ∙ one) c.args.kits.now kits c.run_graph.new.kits
          (become_first KeepsShelf (λ kit. refl) c.args.kits.now some used c.requires.some refl) (c.run_graph.ensures.idle none);
      kept = become_onward Own Own Own (keeps_onward g.F.Shelf g.S.Store) c.args.kits.now kits c.run_graph.new.kits
          (become_first Own (keeps_same g.F.Shelf g.S.Store) c.args.kits.now some used c.requires.some
          (store_used g.F.Shelf g.S.Store first first.shelf c.read_plan_file.new.store first.files refl (record { counts = read.counts; files = read.told; openings = read.kept })))
          c.run_graph.ensures.kept;
      tries = λ none.
          first_then g.S.Store c.args.options.now.attempts c.args.kits.now some used c.in-Ok.read.failed c.run_graph.new.kits c.run_graph.result.status c.requires.some (omega (arith, read.few))
          read.exact (c.run_graph.ensures.tries none);
      writes = c.run_graph.ensures.writes;
    }

pub returns-in-Err-clause-ends : goal.returns-in-Err-clause-ends
returns-in-Err-clause-ends g c =
    let first = get_or c.args.kits.now 0 c.index-kits-0.result in
    let left = set c.args.kits.now 0 (record { shelf = first.shelf; store = c.read_plan_file.new.store; files = first.files }) in
    subst (λ (end : RunEnd). IsPipelineEnd (observed_at g.F.Shelf g.S.Store g.W.Sink c.args.kits.now left c.args.out.now c.args.out.now)
    (Run c.args.plan.now c.args.options.now) c.args.options.now end.status end.outcome) (sym c.ended.ensures)
    (refused_end g.F.Shelf g.S.Store g.W.Sink c.args.out.now c.args.out.now c.args.options.now c.args.plan.now c.read_plan_file.new.store c.index-kits-0.result c.args.kits.now c.requires.some
    refl c.in-Err.status c.in-Err.ensures.refused)

pub returns-in-Err-clause-first_plan : goal.returns-in-Err-clause-first_plan
returns-in-Err-clause-first_plan g c = if_none _ _ (ap (λ (end : RunEnd). end.outcome) c.ended.ensures)

pub returns-in-Err-clause-opened : goal.returns-in-Err-clause-opened
returns-in-Err-clause-opened g c = if_none _ _ (ap (λ (end : RunEnd). end.outcome) c.ended.ensures)

pub returns-in-Err-clause-idle : goal.returns-in-Err-clause-idle
returns-in-Err-clause-idle g c = λ none. become_first KeepsShelf (λ kit. refl) c.args.kits.now c.index-kits-0.result _ c.requires.some refl

pub returns-in-Err-clause-kept : goal.returns-in-Err-clause-kept
returns-in-Err-clause-kept g c =
    let first = get_or c.args.kits.now 0 c.index-kits-0.result in
    let kept = c.read_plan_file.ensures in
    become_first (KeepsKit g.F.Shelf g.S.Store) (keeps_same g.F.Shelf g.S.Store) c.args.kits.now c.index-kits-0.result _ c.requires.some
    (store_used g.F.Shelf g.S.Store first first.shelf c.read_plan_file.new.store first.files refl (record { counts = kept.counts; files = kept.told; openings = kept.kept }))

pub returns-in-Err-clause-tries : goal.returns-in-Err-clause-tries
returns-in-Err-clause-tries g c = λ none.
    let first = get_or c.args.kits.now 0 c.index-kits-0.result in
    let used : Kit _ _ = record { shelf = first.shelf; store = c.read_plan_file.new.store; files = first.files } in
    subst (λ (end : RunEnd). TriesKits g.S.Store c.args.options.now.attempts 0 c.args.kits.now (set c.args.kits.now 0 used) end.status) (sym c.ended.ensures)
    (first_alone g.S.Store c.args.options.now.attempts c.requires.allowed.attempts.0 c.args.kits.now c.index-kits-0.result used c.in-Err.status c.requires.some c.in-Err.ensures.tries
    (plan_only _ c.args.plan.now c.args.options.now.attempts c.in-Err.status c.in-Err.ensures.refused))

pub returns-in-Err-clause-writes : goal.returns-in-Err-clause-writes
returns-in-Err-clause-writes g c =
    let first = get_or c.args.kits.now 0 c.index-kits-0.result in
    subst (λ (end : RunEnd). TriesSink g.W.Sink c.args.options.now.attempts c.args.out.now c.args.out.now end.status) (sym c.ended.ensures)
    (sink_same g.W.Sink c.args.options.now.attempts c.args.out.now c.args.out.now c.in-Err.status refl c.requires.allowed.attempts.0
    (λ is. subst (λ (end : Status). IsPlanRefused (observed_store g.S.Store.files g.S.Store.faults first.store c.read_plan_file.new.store) c.args.plan.now c.args.options.now.attempts end) is
    c.in-Err.ensures.refused))
