use Rattle.std.proofs.Common.{◌≡◌, ◌++◌}
use Rattle.beam_values.specs.Spelling.{varint}
use Rattle.beam_coders.specs.Kept.{Keeps}
use Rattle.beam_coders.proofs.varint.append_varint.Given as goal

-- what was written and what is left make the whole
abbrev pub invariant-loop-number : goal.invariant-loop-number
invariant-loop-number l = record {
  whole : l.out ++ varint l.number ≡ l.initial.out ++ varint l.initial.number;
  kept : Keeps l.initial.out l.out;
}

abbrev pub decreases-loop-number : goal.decreases-loop-number
decreases-loop-number l = l.number
