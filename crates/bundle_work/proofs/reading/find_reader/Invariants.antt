use Rattle.std.proofs.Common.{◌≡◌, false, take}
use Rattle.std.specs.List.{list_any}
use Rattle.bundle_work.specs.Reading.{is_reader_for}
use Rattle.bundle_work.proofs.reading.find_reader.Given as goal

abbrev pub invariant-loop-at : goal.invariant-loop-at
invariant-loop-at l = list_any (is_reader_for l.piece) (take l.at l.readers) ≡ false
