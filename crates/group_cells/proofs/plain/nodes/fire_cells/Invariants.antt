use Rattle.std.proofs.Common.{◌≡◌, take}
use Rattle.group_cells.specs.Plain.{AreFired, after_node}
use Rattle.group_cells.proofs.Writes.{written}
use Rattle.group_cells.proofs.plain.nodes.fire_cells.Given as goal

abbrev pub invariant-loop-cell : goal.invariant-loop-cell
invariant-loop-cell l = record {
  cells : l.cell-items ≡ written (after_node l.rules l.node l.mark) l.fn.cells.items l.cell-index;
  panes : AreFired l.rules l.node l.commit l.mark (take l.cell-index l.fn.cells.items) l.panes.items;
}
