use Rattle.std.proofs.Common.{◌≡◌, take}
use Rattle.std.specs.List.{flat_map}
use Rattle.beam_values.specs.Texts.{byte_text}
use Rattle.beam_text.proofs.value.plain_len.Given as goal

abbrev pub invariant-loop-i : goal.invariant-loop-i
invariant-loop-i l = flat_map byte_text (take l.i l.bytes) ≡ take l.i l.bytes
