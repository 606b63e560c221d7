use Rattle.std.proofs.Common.{◌≤◌, get_or, set, refl, ◌∙◌, arith}
use Rattle.bundle_work.specs.declared.kit.Kit.{Kit}
use Rattle.run_engine.proofs.Opens.{become_onward}
use Rattle.run_engine.specs.Kits.{KeepsKit}
use Rattle.beam_command.specs.Kits.{KeepsShelf}
use Rattle.beam_command.proofs.CombineStops.{document_stopped, stopped_read, text_read}
use Rattle.beam_command.proofs.Kept.{become_first, become_weaker, keeps_onward, keeps_same, store_used}
use Rattle.beam_command.proofs.ReplayFiles.{if_err, if_ok}
use Rattle.beam_command.proofs.Tried.{first_alone, first_then, plan_only}
use Rattle.beam_command.proofs.combines.combined_file.Goals as goal

pub returns-in-Ok-clause-text : goal.returns-in-Ok-clause-text
returns-in-Ok-clause-text g c =
    let read = c.in-Ok.ensures in
    let faults = g.S.Store.faults in
    let some = c.index-kits-0.result in
    let first = get_or c.args.kits.now 0 some in
    let used : Kit _ _ = record { shelf = first.shelf; store = c.read_plan_file.new.store; files = first.files } in
    if_ok _ _ (λ text is. text_read g.F.Shelf g.S.Store c.args.plan.now c.read_plan_file.new.store some c.in-Ok.read.graph c.in-Ok.read.failed c.args.options.now c.requires.allowed
    c.args.kits.now c.combined_graph.new.kits c.requires.some read.told read.counts read.failed read.plan
    (become_weaker (KeepsKit g.F.Shelf g.S.Store) (λ old new. faults old.store ≤ faults new.store) (λ old new kept. kept.reading.counts) (set c.args.kits.now 0 used)
    c.combined_graph.new.kits c.combined_graph.ensures.kept) text is) c.combined_graph.result c.combined_graph.ensures.text

pub returns-in-Ok-clause-stopped : goal.returns-in-Ok-clause-stopped
returns-in-Ok-clause-stopped g c =
    let read = c.in-Ok.ensures in
    let faults = g.S.Store.faults in
    let some = c.index-kits-0.result in
    let first = get_or c.args.kits.now 0 some in
    let used : Kit _ _ = record { shelf = first.shelf; store = c.read_plan_file.new.store; files = first.files } in
    if_err _ _ (λ why is. stopped_read g.F.Shelf g.S.Store c.args.plan.now c.read_plan_file.new.store some c.in-Ok.read.graph c.in-Ok.read.failed c.args.options.now c.requires.allowed
    c.args.kits.now c.combined_graph.new.kits c.requires.some read.told read.counts read.failed read.plan
    (become_weaker (KeepsKit g.F.Shelf g.S.Store) (λ old new. faults old.store ≤ faults new.store) (λ old new kept. kept.reading.counts) (set c.args.kits.now 0 used)
    c.combined_graph.new.kits c.combined_graph.ensures.kept) why is) c.combined_graph.result c.combined_graph.ensures.stopped

pub returns-in-Ok-clause-idle : goal.returns-in-Ok-clause-idle
returns-in-Ok-clause-idle g c =
    let some = c.index-kits-0.result in
    let first = get_or c.args.kits.now 0 some in
    let used : Kit _ _ = record { shelf = first.shelf; store = c.read_plan_file.new.store; files = first.files } in
    if_err _ _ (λ why kept none. become_onward KeepsShelf KeepsShelf KeepsShelf (λ old mid new one two. two ∙ one) c.args.kits.now (set c.args.kits.now 0 used) c.combined_graph.new.kits
    (become_first KeepsShelf (λ kit. refl) c.args.kits.now some used c.requires.some refl) (kept none)) c.combined_graph.result c.combined_graph.ensures.idle

pub returns-in-Ok-clause-kept : goal.returns-in-Ok-clause-kept
returns-in-Ok-clause-kept g c =
    let read = c.in-Ok.ensures in
    let some = c.index-kits-0.result in
    let first = get_or c.args.kits.now 0 some in
    let used : Kit _ _ = record { shelf = first.shelf; store = c.read_plan_file.new.store; files = first.files } in
    let Own = KeepsKit g.F.Shelf g.S.Store in
    become_onward Own Own Own (keeps_onward g.F.Shelf g.S.Store) c.args.kits.now (set c.args.kits.now 0 used) c.combined_graph.new.kits
    (become_first Own (keeps_same g.F.Shelf g.S.Store) c.args.kits.now some used c.requires.some
    (store_used g.F.Shelf g.S.Store first first.shelf c.read_plan_file.new.store first.files refl (record { counts = read.counts; files = read.told; openings = read.kept })))
    c.combined_graph.ensures.kept

pub returns-in-Err-clause-stopped : goal.returns-in-Err-clause-stopped
returns-in-Err-clause-stopped g c =
    document_stopped g.F.Shelf g.S.Store c.args.plan.now c.read_plan_file.new.store c.index-kits-0.result c.args.kits.now c.requires.some c.args.options.now.attempts c.in-Err.status
    c.in-Err.ensures.refused

pub returns-in-Err-clause-idle : goal.returns-in-Err-clause-idle
returns-in-Err-clause-idle g c = λ none. become_first KeepsShelf (λ kit. refl) c.args.kits.now c.index-kits-0.result _ c.requires.some refl

pub returns-in-Err-clause-kept : goal.returns-in-Err-clause-kept
returns-in-Err-clause-kept g c =
    let first = get_or c.args.kits.now 0 c.index-kits-0.result in
    let kept = c.read_plan_file.ensures in
    become_first (KeepsKit g.F.Shelf g.S.Store) (keeps_same g.F.Shelf g.S.Store) c.args.kits.now c.index-kits-0.result _ c.requires.some
    (store_used g.F.Shelf g.S.Store first first.shelf c.read_plan_file.new.store first.files refl (record { counts = kept.counts; files = kept.told; openings = kept.kept }))

pub returns-in-Ok-clause-tries : goal.returns-in-Ok-clause-tries
returns-in-Ok-clause-tries g c =
    let read = c.in-Ok.ensures in
    let some = c.index-kits-0.result in
    let first = get_or c.args.kits.now 0 some in
    let used : Kit _ _ = record { shelf = first.shelf; store = c.read_plan_file.new.store; files = first.files } in
    if_err _ _ (λ why told none. first_then g.S.Store c.args.options.now.attempts c.args.kits.now some used c.in-Ok.read.failed c.combined_graph.new.kits why
    c.requires.some (omega (arith, read.few)) read.exact (told read.few none)) c.combined_graph.result c.combined_graph.ensures.tries

pub returns-in-Err-clause-tries : goal.returns-in-Err-clause-tries
returns-in-Err-clause-tries g c = λ none.
    let first = get_or c.args.kits.now 0 c.index-kits-0.result in
    let used : Kit _ _ = record { shelf = first.shelf; store = c.read_plan_file.new.store; files = first.files } in
    first_alone g.S.Store c.args.options.now.attempts c.requires.allowed.attempts.0 c.args.kits.now c.index-kits-0.result used c.in-Err.status c.requires.some c.in-Err.ensures.tries
    (plan_only _ c.args.plan.now c.args.options.now.attempts c.in-Err.status c.in-Err.ensures.refused)
