use Rattle.std.proofs.Common.{◌≡◌, false, take}
use Rattle.std.specs.List.{All}
use Rattle.beam_text.specs.Parts.{IsPlain}
use Rattle.beam_text.proofs.value.each_is_plain.Given as goal

abbrev pub invariant-loop-byte : goal.invariant-loop-byte
invariant-loop-byte l = l.any ≡ false → All IsPlain (take l.byte-index l.bytes)
