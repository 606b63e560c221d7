use Rattle.std.proofs.Common.{◌≡◌, map, take, length}
use Rattle.group_cells.specs.Cells.{unseen_in}
use Rattle.group_cells.proofs.groups.due.DueCells.recount.Given as goal

abbrev pub invariant-loop-place : goal.invariant-loop-place
invariant-loop-place l = record {
  long : length l.self.unseen.items ≡ length l.cells;
  counts : take l.place l.self.unseen.items ≡ map (λ cell. unseen_in cell.entries) (take l.place l.cells);
  moments : l.self.moments ≡ l.fn.self.moments;
  moved : l.self.moved ≡ l.fn.self.moved;
}
