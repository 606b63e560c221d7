use Rattle.std.proofs.Common.{take}
use Rattle.group_cells.specs.Rounds.{is_open, open_windows}
use Rattle.group_cells.specs.Sane.{AreAllApart}
use Rattle.cell_checks.specs.Listing.{IsLatest, cells_in}
use Rattle.cell_checks.proofs.one_group.are_open_apart.Given as goal

abbrev pub invariant-loop-cell : goal.invariant-loop-cell
invariant-loop-cell l =
    IsLatest (is_open l.rules l.mark) (take l.cell-index (cells_in l.cells)) l.latest
    × AreAllApart (open_windows l.rules l.mark (take l.cell-index (cells_in l.cells)))
