use Rattle.std.proofs.Common.{◌≡◌, length, take}
use Rattle.combine_plan.specs.Dealing.{AreDealt}
use Rattle.combine_plan.proofs.pieces.deal.Given as goal

abbrev pub invariant-loop-at : goal.invariant-loop-at
invariant-loop-at l = record {
  count : length l.hands.items ≡ l.count;
  dealt : AreDealt (take l.at l.pieces) l.hands.items;
}
