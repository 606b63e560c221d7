use Rattle.std.proofs.Common.{◌≡◌, take}
use Rattle.std.specs.List.{filter}
use Rattle.beam_model.specs.Panes.{is_cell_at_key}
use Rattle.group_cells.specs.Rounds.{open_windows}
use Rattle.group_cells.proofs.windows.open_windows.Given as goal

abbrev pub invariant-loop-cell : goal.invariant-loop-cell
invariant-loop-cell l = l.open ≡ open_windows l.rules l.before (filter (is_cell_at_key l.node l.key) (take l.cell-index l.cells))
