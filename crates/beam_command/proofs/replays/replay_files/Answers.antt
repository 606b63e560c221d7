use Rattle.std.proofs.Common.{◌<◌, ◌≤◌, length, get_or, set, refl, arith}
use Rattle.bundle_work.specs.declared.kit.Kit.{Kit}
use Rattle.run_engine.proofs.Opens.{become_onward}
use Rattle.run_engine.specs.Kits.{KeepsKit}
use Rattle.beam_command.proofs.Kept.{become_first, become_weaker, keeps_onward, keeps_same, store_used}
use Rattle.beam_command.proofs.ReplayFiles.{if_err, if_ok}
use Rattle.beam_command.proofs.ReplayStops.{stopped_of, text_of, unread}
use Rattle.beam_command.proofs.Tried.{files_only, first_alone, first_then}
use Rattle.beam_command.proofs.replays.replay_files.Goals as goal

pub returns-in-Ok-clause-text : goal.returns-in-Ok-clause-text
returns-in-Ok-clause-text g c =
    let read = c.in-Ok.ensures in
    let faults = g.S.Store.faults in
    let some = c.index-kits-0.result in
    let first = get_or c.args.kits.now 0 some in
    let used : Kit _ _ = record { shelf = first.shelf; store = c.read_files.new.store; files = first.files } in
    if_ok _ _ (λ text is. text_of g.F.Shelf g.S.Store c.read_files.new.store some c.args.plan.now c.args.schedule.now c.args.options.now c.in-Ok.read.graph
    c.in-Ok.read.schedule.bytes.items c.in-Ok.read.schedule.failed c.requires.allowed c.args.kits.now c.replay_graph.new.kits c.requires.one read.kept.files read.kept.counts read.failed
    read.read.plan read.read.lines
    (become_weaker (KeepsKit g.F.Shelf g.S.Store) (λ old new. faults old.store ≤ faults new.store) (λ old new kept. kept.reading.counts) (set c.args.kits.now 0 used) c.replay_graph.new.kits
    c.replay_graph.ensures.kept) text is) c.replay_graph.result c.replay_graph.ensures.text

pub returns-in-Ok-clause-stopped : goal.returns-in-Ok-clause-stopped
returns-in-Ok-clause-stopped g c =
    let read = c.in-Ok.ensures in
    let faults = g.S.Store.faults in
    let some = c.index-kits-0.result in
    let first = get_or c.args.kits.now 0 some in
    let used : Kit _ _ = record { shelf = first.shelf; store = c.read_files.new.store; files = first.files } in
    if_err _ _ (λ why is. stopped_of g.F.Shelf g.S.Store c.read_files.new.store some c.args.plan.now c.args.schedule.now c.args.options.now c.in-Ok.read.graph
    c.in-Ok.read.schedule.bytes.items c.in-Ok.read.schedule.failed c.requires.allowed c.args.kits.now c.replay_graph.new.kits c.requires.one read.kept.files read.kept.counts read.failed
    read.read.plan read.read.lines
    (become_weaker (KeepsKit g.F.Shelf g.S.Store) (λ old new. faults old.store ≤ faults new.store) (λ old new kept. kept.reading.counts) (set c.args.kits.now 0 used) c.replay_graph.new.kits
    c.replay_graph.ensures.kept) why is) c.replay_graph.result c.replay_graph.ensures.stopped

pub returns-in-Ok-clause-kept : goal.returns-in-Ok-clause-kept
returns-in-Ok-clause-kept g c =
    let some = c.index-kits-0.result in
    let first = get_or c.args.kits.now 0 some in
    let used : Kit _ _ = record { shelf = first.shelf; store = c.read_files.new.store; files = first.files } in
    let there : 0 < length c.args.kits.now = omega (arith, c.requires.one) in
    let Own = KeepsKit g.F.Shelf g.S.Store in
    become_onward Own Own Own (keeps_onward g.F.Shelf g.S.Store) c.args.kits.now (set c.args.kits.now 0 used) c.replay_graph.new.kits
    (become_first Own (keeps_same g.F.Shelf g.S.Store) c.args.kits.now some used there
    (store_used g.F.Shelf g.S.Store first first.shelf c.read_files.new.store first.files refl c.in-Ok.ensures.kept)) c.replay_graph.ensures.kept

pub returns-in-Err-clause-stopped : goal.returns-in-Err-clause-stopped
returns-in-Err-clause-stopped g c =
    unread g.F.Shelf g.S.Store c.read_files.new.store c.index-kits-0.result c.args.plan.now c.args.schedule.now c.args.options.now c.args.kits.now c.requires.one c.in-Err.status
    c.in-Err.ensures.refused

pub returns-in-Ok-clause-tries : goal.returns-in-Ok-clause-tries
returns-in-Ok-clause-tries g c =
    let read = c.in-Ok.ensures in
    let some = c.index-kits-0.result in
    let first = get_or c.args.kits.now 0 some in
    let used : Kit _ _ = record { shelf = first.shelf; store = c.read_files.new.store; files = first.files } in
    if_err _ _ (λ why told none. first_then g.S.Store c.args.options.now.attempts c.args.kits.now some used c.in-Ok.read.schedule.failed c.replay_graph.new.kits why
    (omega (arith, c.requires.one)) (omega (arith, read.few)) read.exact (told none)) c.replay_graph.result c.replay_graph.ensures.tries

pub returns-in-Err-clause-tries : goal.returns-in-Err-clause-tries
returns-in-Err-clause-tries g c = λ none.
    let first = get_or c.args.kits.now 0 c.index-kits-0.result in
    let used : Kit _ _ = record { shelf = first.shelf; store = c.read_files.new.store; files = first.files } in
    first_alone g.S.Store c.args.options.now.attempts c.requires.allowed.attempts.0 c.args.kits.now c.index-kits-0.result used c.in-Err.status (omega (arith, c.requires.one)) c.in-Err.ensures.tries
    (files_only _ c.args.plan.now c.args.schedule.now c.args.options.now.attempts c.in-Err.status c.in-Err.ensures.refused)
