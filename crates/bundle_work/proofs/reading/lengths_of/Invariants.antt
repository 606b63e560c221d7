use Rattle.std.proofs.Common.{◌≡◌, map, take}
use Rattle.bundle_work.specs.Reading.{length_in}
use Rattle.bundle_work.proofs.reading.lengths_of.Given as goal

abbrev pub invariant-loop-reader : goal.invariant-loop-reader
invariant-loop-reader l = l.lengths ≡ map length_in (take l.reader-index l.readers)
