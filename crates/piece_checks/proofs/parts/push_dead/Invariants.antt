use Rattle.std.proofs.Common.{◌≡◌, ◌++◌, take, map}
use Rattle.piece_checks.specs.Parts.{part_of_dead}
use Rattle.piece_checks.proofs.parts.push_dead.Given as goal

abbrev pub invariant-loop-d : goal.invariant-loop-d
invariant-loop-d l = l.parts.items ≡ l.fn.parts.items ++ map part_of_dead (take l.d-index l.dead)
