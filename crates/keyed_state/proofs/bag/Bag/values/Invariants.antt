use Rattle.std.proofs.Common.{◌≡◌, take}
use Rattle.keyed_state.specs.Bags.{joined}
use Rattle.keyed_state.proofs.bag.Bag.values.Given as goal

abbrev pub invariant-loop-run : goal.invariant-loop-run
invariant-loop-run l = l.values ≡ joined (take l.run-index l.run-items)
