use Rattle.std.proofs.Common.{take}
use Rattle.cell_index.specs.Indexes.{IsIndexOf}
use Rattle.combine_lift.specs.Indexed.{cells_of}
use Rattle.combine_lift.proofs.rows_index.index_of.Given as goal

abbrev pub invariant-loop-place : goal.invariant-loop-place
invariant-loop-place g l = IsIndexOf l.index (cells_of (take l.place l.rows))
