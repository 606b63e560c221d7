use Rattle.std.proofs.Common.{◌≡◌, ◌+◌, ◌≤◌, ◌++◌, true, length, reverse}
use Rattle.std.specs.Int.{div_ceil}
use Rattle.std.specs.List.{All}
use Rattle.split_core.specs.Order.{is_lower, with_pieces, first_piece}
use Rattle.split_core.proofs.Chunks.{some_pieces}
use Rattle.split_core.proofs.merge.put_first_pieces.Given as goal

abbrev pub invariant-loop-i : goal.invariant-loop-i
invariant-loop-i l = record {
  order : l.lower.items ++ reverse l.items.items ≡ with_pieces (some_pieces l.node l.item l.chunk l.len l.i) (reverse l.initial.items.items);
  below : All (λ q. is_lower q (first_piece l.node l.item l.chunk l.len l.i) ≡ true) l.lower.items;
  more : length l.lower.items + length l.items.items ≡ length l.initial.items.items + l.i;
  aside : length l.initial.items.items + div_ceil l.len l.chunk ≤ length l.lower.items + l.lower.room;
  kept : length l.initial.items.items + l.initial.items.room ≤ length l.items.items + l.items.room;
}
