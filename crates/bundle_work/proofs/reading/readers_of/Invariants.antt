use Rattle.std.proofs.Common.{◌≡◌, ◌++◌, drop}
use Rattle.bundle_work.specs.Reading.{readers_from}
use Rattle.bundle_work.proofs.reading.readers_of.Given as goal

abbrev pub invariant-loop-number : goal.invariant-loop-number
invariant-loop-number l = readers_from 0 l.nodes l.files ≡ l.readers.items ++ readers_from l.number (drop l.number l.nodes) l.rest
