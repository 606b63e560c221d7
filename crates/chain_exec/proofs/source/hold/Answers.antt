use Rattle.std.proofs.Common.{sym, ◌∙◌}
use Rattle.chain_exec.proofs.Looks.{file_cut, look_at_file}
use Rattle.chain_exec.proofs.source.hold.Goals as goal

pub returns-in-Ok-clause-view : goal.returns-in-Ok-clause-view
returns-in-Ok-clause-view g c =
    let reads = sym c.reads_file.ensures ∙ c.if-not-reads_file.false in
    look_at_file c.args.work c.args.args.now c.hold_line.new.self c.args.p reads (c.in-Ok.ensures.serves.view c.args.work c.args.args.now reads)

pub returns-in-Ok-clause-whole : goal.returns-in-Ok-clause-whole
returns-in-Ok-clause-whole g c =
    let reads = sym c.reads_file.ensures ∙ c.if-not-reads_file.false in
    file_cut c.args.work c.args.args.now c.hold_line.new.self c.args.p reads ∙ c.in-Ok.ensures.line
