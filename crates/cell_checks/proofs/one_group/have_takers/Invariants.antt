use Rattle.std.proofs.Common.{take}
use Rattle.std.specs.List.{All}
use Rattle.group_cells.specs.Sane.{HasTaker}
use Rattle.cell_checks.specs.Listing.{IsLatest, cells_in}
use Rattle.cell_checks.proofs.Takers.{stands}
use Rattle.cell_checks.proofs.one_group.have_takers.Given as goal

abbrev pub invariant-loop-cell : goal.invariant-loop-cell
invariant-loop-cell l =
    IsLatest stands (take l.cell-index (cells_in l.cells)) l.latest
    × All (HasTaker l.rules (cells_in l.cells)) (take l.cell-index (cells_in l.cells))
