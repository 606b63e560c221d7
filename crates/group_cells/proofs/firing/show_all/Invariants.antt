use Rattle.std.proofs.Common.{◌≡◌, ◌≤◌, length}
use Rattle.group_cells.specs.Cells.{shown}
use Rattle.group_cells.proofs.Writes.{written}
use Rattle.group_cells.proofs.firing.show_all.Given as goal

abbrev pub invariant-loop-at : goal.invariant-loop-at
invariant-loop-at l = record {
  within : l.at ≤ length l.fn.entries;
  items : l.items.items ≡ written shown l.fn.entries l.at;
}
