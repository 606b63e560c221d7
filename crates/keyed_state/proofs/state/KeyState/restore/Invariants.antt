use Rattle.std.proofs.Common.{◌≡◌, ◌++◌, length, take}
use Rattle.std.specs.Vec.Iter.{into_iter_items}
use Rattle.keyed_state.proofs.state.KeyState.restore.Given as goal

-- the cells so far hold what was handed over
abbrev pub invariant-loop-cell : goal.invariant-loop-cell
invariant-loop-cell l = record {
  whole : l.fn.cells ≡ l.yielded ++ into_iter_items l.cell-iterator;
  size : length l.restored ≡ 8;
  many : l.name ≡ length l.yielded;
  held : take l.name l.restored ≡ l.yielded;
}
