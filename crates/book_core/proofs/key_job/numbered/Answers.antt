use Rattle.std.proofs.Common.{get_or, ap, arith, sym}
use Rattle.book_core.proofs.Writes.{written_more}
use Rattle.stateful_core.specs.KeyWork.{numbered_entry}
use Rattle.book_core.proofs.key_job.numbered.Goals as goal

pub loop-entry-preserved : goal.loop-entry-preserved
loop-entry-preserved c =
    let f = numbered_entry c.args.commit in
    written_more f c.args.entries c.loop-entry.entry-items c.loop-entry.entry-index c.entry-item.result
    (record (get_or c.loop-entry.entry-items c.loop-entry.entry-index c.entry-item.result) { commit = c.args.commit }) (omega arith) c.loop-entry.invariant c.entry-item.is
    (ap f (sym c.entry-item.is))
