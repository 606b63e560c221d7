use Rattle.std.proofs.Common.{◌≡◌, ◌++◌, take, flat_map}
use Rattle.piece_checks.specs.Parts.{parts_of_done}
use Rattle.piece_checks.proofs.parts.push_done.Given as goal

abbrev pub invariant-loop-d : goal.invariant-loop-d
invariant-loop-d l = l.parts.items ≡ l.fn.parts.items ++ flat_map parts_of_done (take l.d-index l.done)
