use Rattle.std.proofs.Common.{◌≡◌, false, take}
use Rattle.keyed_state.specs.Bags.{holds_value, joined}
use Rattle.keyed_state.proofs.bag.any_holds.Given as goal

-- none of the runs so far holds it
abbrev pub invariant-loop-run : goal.invariant-loop-run
invariant-loop-run l = holds_value (joined (take l.run-index l.runs)) l.value ≡ false
