use Rattle.std.proofs.Common.{◌≡◌, ℕ, List, Option, Some, subst, sym, ap, ◌∙◌}
use Rattle.beam_ports.specs.Observed.{observed_sink, observed_store}
use Rattle.command_words.specs.Commands.{words_of}
use Rattle.beam_draw.specs.Ends.{IsDrawEnd, file_asked}
use Rattle.beam_draw.proofs.Drawn.{drawn_end, two_words}
use Rattle.beam_draw.proofs.top.drawn.Goals as goal

pub returns-in-Ok-clause-ends : goal.returns-in-Ok-clause-ends
returns-in-Ok-clause-ends g c =
    let read = c.in-Ok.read in
    let store = observed_store g.S.Store.files g.S.Store.faults c.args.store.now c.read_plan_file.new.store in
    let out = observed_sink g.W.Sink.faults g.W.Sink.taken c.args.out.now c.draw_read.new.out in
    let asked : file_asked (words_of c.args.words.now) ≡ Some c.as_bytes.result.now =
    two_words c.args.words.now c.file-item.result c.in-len2.len_at_least c.in-len2.len_below c.file-item.is
    ∙ ap (λ (bytes : List ℕ). Some bytes) (sym c.as_bytes.ensures.value) in
    subst (λ (asked : Option (List ℕ)). IsDrawEnd asked store out c.draw_read.result) (sym asked)
    (drawn_end store out c.as_bytes.result.now read.names read.graph c.draw_read.result c.in-Ok.ensures.plan c.in-Ok.ensures.names c.draw_read.ensures.ends)
