use Rattle.std.proofs.Common.{◌≡◌, ◌++◌}
use Rattle.std.specs.Vec.Iter.{into_iter_items}
use Rattle.combine_plan.specs.Hands.{hands_of}
use Rattle.combine_plan.proofs.crew.seats_for.Given as goal

abbrev pub invariant-loop-hand : goal.invariant-loop-hand
invariant-loop-hand g l = record {
  whole : l.fn.hands.items ≡ l.yielded ++ into_iter_items l.hand-iterator;
  seats : hands_of l.seats.items ≡ l.yielded;
}
