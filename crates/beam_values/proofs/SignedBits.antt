-- Signed numbers of 64 bits by their bits.
use Rattle.std.proofs.Common.{◌≡◌, ℤ, pos, negsuc, FitsSigned, w64, ap, arith}
use Rattle.std.specs.declared.cmp.Ordering.TheVariants.{Equal}
use Rattle.std.specs.Ordering.{nat_cmp}
use Rattle.std.specs.Cmp.Lexicographic.{slice_cmp}
use Rattle.beam_values.specs.Spelling.{varint, two's_complement}
use Rattle.beam_values.proofs.Lexicographic.{same_where_tied}
use Rattle.beam_values.proofs.Varints.{varint-same}

-- numbers with the same bits are the same
pub bits-same : (a b : ℤ) → FitsSigned w64 a → FitsSigned w64 b → two's_complement a ≡ two's_complement b → a ≡ b
bits-same (pos m) (pos n) f g e = ap pos e
bits-same (pos m) (negsuc n) f g e = absurd (omega (arith, f.sfits, g.sfits))
bits-same (negsuc m) (pos n) f g e = absurd (omega (arith, f.sfits, g.sfits))
bits-same (negsuc m) (negsuc n) f g e = let same : m ≡ n = omega (arith, f.sfits, g.sfits) in ap negsuc same

-- numbers whose spellings tie are the same
pub ints_alike : (a b : ℤ) → FitsSigned w64 a → FitsSigned w64 b → slice_cmp nat_cmp (varint (two's_complement a)) (varint (two's_complement b)) ≡ Equal → a ≡ b
ints_alike a b f g tie = bits-same a b f g (varint-same (two's_complement a) (two's_complement b) (same_where_tied (varint (two's_complement a)) (varint (two's_complement b)) tie))
