use Rattle.std.proofs.Common.{◌≡◌, map, take}
use Rattle.beam_values.specs.Marks.{least_mark}
use Rattle.book_core.proofs.held.NodeHolds.least.Given as goal

abbrev pub invariant-loop-holds : goal.invariant-loop-holds
invariant-loop-holds l = l.least.items ≡ map (λ holds. least_mark holds.marks) (take l.holds-index l.holds-items)
