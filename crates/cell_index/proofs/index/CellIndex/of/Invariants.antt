use Rattle.std.proofs.Common.{take}
use Rattle.cell_index.specs.Indexes.{IsIndexOf}
use Rattle.cell_index.proofs.index.CellIndex.of.Given as goal

abbrev pub invariant-loop-place : goal.invariant-loop-place
invariant-loop-place l = IsIndexOf l.index (take l.place l.cells)
