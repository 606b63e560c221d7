use Rattle.std.proofs.Common.{take}
use Rattle.stateful_core.specs.Data.{cells_of_data}
use Rattle.stateful_core.specs.Facts.{AreOnce}
use Rattle.stateful_core.proofs.Distinct.{AreNoted}
use Rattle.stateful_core.proofs.sane_data.are_once.Given as goal

abbrev pub invariant-loop-key : goal.invariant-loop-key
invariant-loop-key l = record {
  noted : AreNoted l.index.numbers.places (cells_of_data (take l.key-index l.keys));
  once : AreOnce (cells_of_data (take l.key-index l.keys));
}
