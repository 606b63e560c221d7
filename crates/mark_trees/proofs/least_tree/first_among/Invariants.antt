use Rattle.std.proofs.Common.{◌≡◌, false, take}
use Rattle.std.specs.List.{All}
use Rattle.mark_trees.specs.Halves.{is_due}
use Rattle.mark_trees.proofs.least_tree.first_among.Given as goal

abbrev pub invariant-loop-at : goal.invariant-loop-at
invariant-loop-at l = All (λ m. is_due l.bound m ≡ false) (take l.at l.level)
