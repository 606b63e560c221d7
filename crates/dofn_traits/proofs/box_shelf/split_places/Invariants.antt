use Rattle.std.proofs.Common.{◌≡◌, ℕ, ◌<◌, ◌==◌, length, get_or, position, Some}
use Rattle.dofn_traits.specs.Shelves.{source_kinds, source_number}
use Rattle.dofn_traits.proofs.box_shelf.split_places.Given as goal

abbrev pub invariant-loop-number : goal.invariant-loop-number
invariant-loop-number g l = record {
  size : length l.places ≡ length source_kinds;
  placed : (n : ℕ) → n < l.number → position (λ box. source_number (g.S.SplittableFn.work box) == n) l.splits ≡ Some (get_or l.places n 0);
}
