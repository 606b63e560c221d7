use Rattle.std.proofs.Common.{◌≡◌, ◌++◌, take, drop, length}
use Rattle.mark_trees.specs.Halves.{AreLevels, put_up}
use Rattle.mark_trees.specs.Levels.{HaveRoom, lists_of}
use Rattle.mark_trees.proofs.levels.put_up.Given as goal

abbrev pub invariant-loop-k : goal.invariant-loop-k
invariant-loop-k l = record {
  same : drop l.k l.levels.items ≡ drop l.k l.initial.levels.items;
  sized : length l.levels.items ≡ length l.initial.levels.items;
  levels : AreLevels (drop l.k (lists_of l.initial.levels.items));
  made : take l.k (lists_of l.levels.items) ++ put_up (drop l.k (lists_of l.initial.levels.items)) l.at l.marks ≡ put_up (lists_of l.initial.levels.items) l.initial.at l.initial.marks;
  room : HaveRoom l.at (drop l.k l.initial.levels.items);
}
