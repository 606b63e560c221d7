use Rattle.std.proofs.Common.{◌≡◌, take}
use Rattle.std.specs.List.{flat_map}
use Rattle.group_cells.specs.Plain.{handed_over_at, once_opened_at, opening_of}
use Rattle.group_cells.proofs.Writes.{written}
use Rattle.group_cells.proofs.plain.placing.hand_all_over.Given as goal

abbrev pub invariant-loop-cell : goal.invariant-loop-cell
invariant-loop-cell l = record {
  cells : l.cell-items ≡ written (once_opened_at l.rules l.before l.node (opening_of l.key l.span)) l.fn.cells.items l.cell-index;
  entries : l.entries ≡ flat_map (handed_over_at l.rules l.before l.node (opening_of l.key l.span)) (take l.cell-index l.fn.cells.items);
}
