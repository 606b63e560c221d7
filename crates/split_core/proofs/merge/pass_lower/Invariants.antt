use Rattle.std.proofs.Common.{◌≡◌, ◌+◌, ◌≤◌, ◌<◌, ◌++◌, true, length, reverse}
use Rattle.std.specs.List.{All}
use Rattle.beam_values.specs.declared.piece.Piece.{Piece}
use Rattle.split_core.specs.Order.{is_lower, with_piece}
use Rattle.split_core.proofs.merge.pass_lower.Given as goal

abbrev pub invariant-loop-items : goal.invariant-loop-items
invariant-loop-items l = record {
  order : l.lower.items ++ with_piece l.piece (reverse l.items.items) ≡ l.initial.lower.items ++ with_piece l.piece (reverse l.initial.items.items);
  below : (next : Piece) → is_lower l.piece next ≡ true → All (λ q. is_lower q next ≡ true) l.initial.lower.items → All (λ q. is_lower q next ≡ true) l.lower.items;
  more : length l.lower.items + length l.items.items ≡ length l.initial.lower.items + length l.initial.items.items;
  room : length l.items.items < l.lower.room;
  aside : length l.initial.lower.items + l.initial.lower.room ≤ length l.lower.items + l.lower.room;
  kept : length l.initial.items.items + l.initial.items.room ≤ length l.items.items + l.items.room;
}

abbrev pub decreases-loop-items : goal.decreases-loop-items
decreases-loop-items l = length l.items.items
