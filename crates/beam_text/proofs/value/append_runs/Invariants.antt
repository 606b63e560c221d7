use Rattle.std.proofs.Common.{◌≡◌, ◌++◌, length, take}
use Rattle.std.specs.List.{flat_map}
use Rattle.beam_values.specs.Texts.{byte_text}
use Rattle.beam_text.proofs.value.append_runs.Given as goal

-- what is written and what is left are the whole text
abbrev pub invariant-loop-rest : goal.invariant-loop-rest
invariant-loop-rest l = record {
  whole : l.out ++ flat_map byte_text l.rest ≡ l.fn.out ++ flat_map byte_text l.bytes;
  kept : take (length l.fn.out) l.out ≡ l.fn.out;
}

abbrev pub decreases-loop-rest : goal.decreases-loop-rest
decreases-loop-rest l = length l.rest
