use Rattle.std.proofs.Common.{◌≡◌, [], length}
use Rattle.combine_plan.specs.Dealing.{AreDealt}
use Rattle.combine_plan.proofs.pieces.empty_hands.Given as goal

abbrev pub invariant-loop : goal.invariant-loop
invariant-loop l = record {
  count : length l.hands.items ≡ l.counter;
  empty : AreDealt [] l.hands.items;
}
