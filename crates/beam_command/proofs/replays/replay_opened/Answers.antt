use Rattle.std.proofs.Common.{List, sym, subst}
use Rattle.beam_ports.specs.declared.store.Opened.{Opened}
use Rattle.bundle_work.specs.Openings.{AreOpened, file_names}
use Rattle.beam_command.proofs.Graphs.{are_found}
use Rattle.beam_command.proofs.ReplayKits.{kit_replayed, kit_stopped}
use Rattle.beam_command.proofs.replays.replay_opened.Goals as goal

pub returns-in-Ok-clause-text : goal.returns-in-Ok-clause-text
returns-in-Ok-clause-text g c =
    let kit = c.args.kit.now in
    let told = g.S.Store.files kit.store in
    let opened = g.S.Store.opened kit.store in
    let lengths = c.in_ok-files.ensures.items told opened
    (subst (λ (files : List Opened). AreOpened told opened (file_names c.args.graph) files) (sym c.as_slice.ensures) c.requires.opened) in
    kit_replayed g.F.Shelf g.S.Store kit c.replay.new.kit c.args.graph c.args.options.now c.args.schedule.now c.in_ok-files.files lengths
    (are_found told opened c.args.graph kit.files c.requires.opened) c.in-Ok.text c.in-Ok.ensures.text

pub returns-in-Err-Bad-clause-stopped : goal.returns-in-Err-Bad-clause-stopped
returns-in-Err-Bad-clause-stopped g c =
    let kit = c.args.kit.now in
    let told = g.S.Store.files kit.store in
    let opened = g.S.Store.opened kit.store in
    let lengths = c.in_ok-files.ensures.items told opened
    (subst (λ (files : List Opened). AreOpened told opened (file_names c.args.graph) files) (sym c.as_slice.ensures) c.requires.opened) in
    kit_stopped g.F.Shelf g.S.Store kit c.replay.new.kit c.args.graph c.args.options.now c.args.schedule.now c.in_ok-files.files lengths
    (are_found told opened c.args.graph kit.files c.requires.opened) c.requires.short c.in-Err-Bad.field-0 c.in-Err-Bad.refusal c.in-Err-Bad.field-0-is c.in-Err-Bad.ensures.refused
