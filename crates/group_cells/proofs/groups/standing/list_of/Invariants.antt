use Rattle.std.proofs.Common.{◌≡◌, ◌++◌}
use Rattle.group_cells.proofs.groups.standing.list_of.Given as goal

abbrev pub invariant-loop-place : goal.invariant-loop-place
invariant-loop-place l = l.list ++ l.place-iterator ≡ l.places.keys
