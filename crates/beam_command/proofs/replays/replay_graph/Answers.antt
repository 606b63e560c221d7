use Rattle.std.proofs.Common.{ℕ, List, IfErr, IfOk, get_or, set, subst}
use Rattle.beam_command.specs.Replaying.{IsGraphReplayed, IsGraphStopped}
use Rattle.beam_command.proofs.Kept.{idle_opened, kept_opened}
use Rattle.beam_command.proofs.ReplayFiles.{if_err, if_ok}
use Rattle.beam_command.proofs.ReplayKits.{graph_kept, graph_replayed, graph_stopped, opening_stopped}
use Rattle.beam_command.proofs.Tried.{kit_begun}
use Rattle.beam_command.proofs.replays.replay_graph.Goals as goal

pub returns-in-Ok-clause-text : goal.returns-in-Ok-clause-text
returns-in-Ok-clause-text g c =
    let lines = c.as_slice.result.now in
    let new = c.replay_opened.new.kit in
    let mids = c.open_sources.new.kits in
    subst (λ (words : List ℕ). IfOk c.replay_opened.result (IsGraphReplayed g.F.Shelf g.S.Store c.args.kits.now (set mids 0 new) c.args.graph c.args.options.now words)) c.as_slice.ensures.value
    (if_ok _ _ (λ text is. graph_replayed g.F.Shelf g.S.Store c.args.graph c.args.options.now lines new c.index-kits-0.result c.args.kits.now mids c.requires.one
    c.open_sources.ensures.kept text is) c.replay_opened.result c.replay_opened.ensures.text)

pub returns-in-Ok-clause-stopped : goal.returns-in-Ok-clause-stopped
returns-in-Ok-clause-stopped g c =
    let lines = c.as_slice.result.now in
    let new = c.replay_opened.new.kit in
    let mids = c.open_sources.new.kits in
    let failed = c.args.schedule.now.failed in
    subst (λ (words : List ℕ). IfErr c.replay_opened.result (IsGraphStopped g.F.Shelf g.S.Store c.args.kits.now (set mids 0 new) c.args.graph c.args.options.now words failed))
    c.as_slice.ensures.value
    (if_err _ _ (λ why is. graph_stopped g.F.Shelf g.S.Store c.args.graph c.args.options.now lines new c.index-kits-0.result c.args.kits.now mids c.requires.one
    c.open_sources.ensures.kept failed why is) c.replay_opened.result c.replay_opened.ensures.stopped)

pub returns-in-Ok-clause-kept : goal.returns-in-Ok-clause-kept
returns-in-Ok-clause-kept g c =
    graph_kept g.F.Shelf g.S.Store c.replay_opened.new.kit c.index-kits-0.result c.args.kits.now c.open_sources.new.kits c.requires.one c.open_sources.ensures.kept c.replay_opened.ensures.kept

pub returns-in-Err-clause-stopped : goal.returns-in-Err-clause-stopped
returns-in-Err-clause-stopped g c =
    opening_stopped g.F.Shelf g.S.Store c.args.kits.now c.open_sources.new.kits c.requires.one c.args.graph c.args.options.now c.args.schedule.now.bytes.items c.args.schedule.now.failed
    c.in-Err.status c.in-Err.ensures.refused

pub returns-in-Err-clause-idle : goal.returns-in-Err-clause-idle
returns-in-Err-clause-idle g c = λ none. idle_opened g.S.Store c.args.kits.now c.open_sources.new.kits c.open_sources.ensures.kept

pub returns-in-Err-clause-kept : goal.returns-in-Err-clause-kept
returns-in-Err-clause-kept g c = kept_opened g.F.Shelf g.S.Store c.args.kits.now c.open_sources.new.kits c.open_sources.ensures.kept

pub returns-in-Ok-clause-tries : goal.returns-in-Ok-clause-tries
returns-in-Ok-clause-tries g c =
    if_err _ _ (λ why stopped none. absurd (kit_begun g.F.Shelf g.S.Store (get_or c.open_sources.new.kits 0 c.index-kits-0.result) c.replay_opened.new.kit c.args.graph c.args.options.now
    c.as_slice.result.now why stopped none)) c.replay_opened.result c.replay_opened.ensures.stopped
