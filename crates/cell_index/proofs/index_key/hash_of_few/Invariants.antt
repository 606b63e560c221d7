use Rattle.std.proofs.Common.{◌≡◌, take}
use Rattle.std.specs.List.{fold}
use Rattle.cell_index.specs.Leads.{with_word}
use Rattle.cell_index.proofs.index_key.hash_of_few.Given as goal

abbrev pub invariant-loop-byte : goal.invariant-loop-byte
invariant-loop-byte l = l.hash ≡ fold with_word 0 (take l.byte-index l.bytes)
