use Rattle.std.proofs.Common.{◌≡◌, ◌-◌, ◌≤◌, ◌++◌, length, reverse, vec_capacity, vec_len}
use Rattle.group_cells.proofs.groups.room.Room.take_back.Given as goal

abbrev pub invariant-loop : goal.invariant-loop
invariant-loop l = record {
  whole : l.entries.items ++ reverse l.list.items ≡ l.fn.entries.items;
  left : length l.entries.items ≡ length l.fn.entries.items - l.counter;
  few : vec_len l.list ≤ l.counter;
  room : vec_capacity l.list ≡ vec_capacity l.fn.self.list;
}
