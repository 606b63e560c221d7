use Rattle.std.proofs.Common.{◌∙◌, sym}
use Rattle.std.proofs.lemmas.Bool.{le-leb}
use Rattle.beam_coders.proofs.VarintReading.{low_fits}
use Rattle.beam_coders.proofs.varint.fits.Goals as goal

pub returns-then-bits-ge7 : goal.returns-then-bits-ge7
returns-then-bits-ge7 c = le-leb 7 c.args.bits c.if-bits-ge7.true ∙ sym (low_fits c.args.bits c.args.group c.if-bits-ge7.true c.requires)
