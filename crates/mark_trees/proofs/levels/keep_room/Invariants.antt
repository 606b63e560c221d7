use Rattle.std.proofs.Common.{◌≡◌, take, length}
use Rattle.std.specs.List.{All}
use Rattle.mark_trees.specs.Levels.{HasRoom, lists_of}
use Rattle.mark_trees.proofs.levels.keep_room.Given as goal

abbrev pub invariant-loop-k : goal.invariant-loop-k
invariant-loop-k l = record {
  lists : lists_of l.levels.items ≡ lists_of l.initial.levels.items;
  sized : length l.levels.items ≡ length l.initial.levels.items;
  rooms : All HasRoom (take l.k l.levels.items);
}
