use Rattle.std.proofs.Common.{◌≡◌, ◌++◌, take}
use Rattle.bundle_work.specs.Reading.{file_readers}
use Rattle.bundle_work.proofs.reading.add_files.Given as goal

abbrev pub invariant-loop-item : goal.invariant-loop-item
invariant-loop-item l = l.readers.items ≡ l.initial.readers.items ++ file_readers l.node (take l.item l.opened)
