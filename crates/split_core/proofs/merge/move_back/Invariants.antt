use Rattle.std.proofs.Common.{◌≡◌, ◌+◌, ◌≤◌, ◌++◌, length, reverse}
use Rattle.split_core.proofs.merge.move_back.Given as goal

abbrev pub invariant-loop-last : goal.invariant-loop-last
invariant-loop-last l = record {
  order : l.lower.items ++ reverse l.items.items ≡ l.initial.lower.items ++ reverse l.initial.items.items;
  room : length l.lower.items ≤ l.items.room;
  more : length l.lower.items + length l.items.items ≡ length l.initial.lower.items + length l.initial.items.items;
  kept : length l.initial.items.items + l.initial.items.room ≤ length l.items.items + l.items.room;
}

abbrev pub decreases-loop-last : goal.decreases-loop-last
decreases-loop-last l = length l.lower.items
