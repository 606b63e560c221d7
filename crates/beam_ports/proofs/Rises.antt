-- Rises of counts that only grow.
use Rattle.std.proofs.Common.{ℕ, ◌+◌, ◌≤◌, min, arith}
use Rattle.std.proofs.lemmas.Bool.Decides.{nat_tests}
use Rattle.beam_ports.specs.Counts.{greatest_count, rise}

pub rise_grows : (before between now : ℕ) → between ≤ now → rise before between ≤ rise before now
rise_grows before between now later = grind (arith, nat_tests)

-- the rises of two spans, one after the other, are within the rise of both
pub rises_add : (before between now : ℕ) → before ≤ between → between ≤ now → min (rise before between + rise between now) greatest_count ≤ rise before now
rises_add before between now earlier later = grind (arith, nat_tests)
