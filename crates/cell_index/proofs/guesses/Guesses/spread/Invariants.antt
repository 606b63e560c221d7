use Rattle.std.proofs.Common.{ℕ}
use Rattle.std.specs.List.{All}
use Rattle.std.specs.BTreeMap.{BTreeMap}
use Rattle.cell_index.specs.Indexes.{IsOfKey}
use Rattle.cell_index.specs.declared.index_key.CellKey.{CellKey}
use Rattle.cell_index.proofs.guesses.Guesses.spread.Given as goal

abbrev pub invariant-loop-at : goal.invariant-loop-at
invariant-loop-at l = (places : BTreeMap CellKey ℕ) → All (IsOfKey places) l.fn.self.slots.items → All (IsOfKey places) l.self.slots.items
