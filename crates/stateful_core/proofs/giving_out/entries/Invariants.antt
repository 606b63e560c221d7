use Rattle.std.proofs.Common.{◌≡◌, take}
use Rattle.stateful_core.proofs.giving_out.entries.Given as goal

abbrev pub invariant-loop-entry : goal.invariant-loop-entry
invariant-loop-entry l = l.entries ≡ take l.entry-index l.log
