use Rattle.std.proofs.Common.{◌≡◌}
use Rattle.cell_index.specs.Leads.{words_hash}
use Rattle.cell_index.proofs.index_key.hash_of_bytes.Given as goal

abbrev pub invariant-loop-at : goal.invariant-loop-at
invariant-loop-at l = l.hash ≡ words_hash l.bytes l.at
