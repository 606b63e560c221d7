use Rattle.std.proofs.Common.{◌≡◌}
use Rattle.std.specs.Ordering.{nat_cmp}
use Rattle.std.specs.Cmp.Lexicographic.{slice_cmp}
use Rattle.beam_values.specs.Spelling.{varint}
use Rattle.beam_values.proofs.compare.cmp_varints.Given as goal

abbrev pub invariant-loop-a : goal.invariant-loop-a
invariant-loop-a l = slice_cmp nat_cmp (varint l.a) (varint l.b) ≡ slice_cmp nat_cmp (varint l.initial.a) (varint l.initial.b)

abbrev pub decreases-loop-a : goal.decreases-loop-a
decreases-loop-a l = l.a
