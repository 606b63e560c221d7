use Rattle.std.proofs.Common.{◌≡◌, ◌++◌, map}
use Rattle.std.specs.BTreeSet.{keys_between}
use Rattle.std.specs.declared.ops.Bound.TheVariants.{Included}
use Rattle.group_cells.specs.Due.{due_cmp}
use Rattle.group_cells.proofs.groups.due.DueCells.places_between.Given as goal

abbrev pub invariant-loop-key : goal.invariant-loop-key
invariant-loop-key l =
    l.places.items ++ map (λ k. k.place) l.key-iterator ≡ map (λ k. k.place) (keys_between due_cmp (Included l.fn.first) (Included l.fn.last) l.self.moments)
