use Rattle.std.proofs.Common.{[]}
use Rattle.beam_text.specs.Parts.{IsByNode}
use Rattle.beam_text.proofs.writes.empty_lists.Given as goal

abbrev pub invariant-loop : goal.invariant-loop
invariant-loop l = IsByNode l.counter [] l.lists.items
