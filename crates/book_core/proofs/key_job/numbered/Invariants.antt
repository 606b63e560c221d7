use Rattle.std.proofs.Common.{◌≡◌}
use Rattle.book_core.proofs.Writes.{written}
use Rattle.stateful_core.specs.KeyWork.{numbered_entry}
use Rattle.book_core.proofs.key_job.numbered.Given as goal

abbrev pub invariant-loop-entry : goal.invariant-loop-entry
invariant-loop-entry l = l.entry-items ≡ written (numbered_entry l.commit) l.fn.entries l.entry-index
