use Rattle.std.proofs.Common.{sym, ◌∙◌}
use Rattle.stored_books.proofs.OwnLengths.{of_files, of_made}
use Rattle.stored_books.proofs.lengths.own_of_source.Goals as goal

pub returns-then-reads_file-clause-own : goal.returns-then-reads_file-clause-own
returns-then-reads_file-clause-own c =
    let reads = sym c.reads_file.ensures ∙ c.if-reads_file.true in
    of_files c.args.number c.args.work c.args.args.now c.args.names.now c.args.files.now c.own_files.result reads
    (λ others. c.own_files.ensures.own c.args.work c.args.args.now others reads)

pub returns-else-reads_file-clause-own : goal.returns-else-reads_file-clause-own
returns-else-reads_file-clause-own c =
    let reads = sym c.reads_file.ensures ∙ c.if-reads_file.false in
    of_made c.args.number c.args.work c.args.args.now c.args.names.now c.args.files.now c.own_made.result reads
    (λ others. c.own_made.ensures.own c.args.work others reads)
