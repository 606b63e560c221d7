use Rattle.std.proofs.Common.{◌≡◌, ℕ, ◌<◌, ◌==◌, length, get_or, position, Some}
use Rattle.dofn_traits.specs.Shelves.{fn_kinds, fn_number}
use Rattle.dofn_traits.proofs.box_shelf.fn_places.Given as goal

abbrev pub invariant-loop-number : goal.invariant-loop-number
invariant-loop-number g l = record {
  size : length l.places ≡ length fn_kinds;
  placed : (n : ℕ) → n < l.number → position (λ box. fn_number (g.D.DoFn.work box) == n) l.fns ≡ Some (get_or l.places n 0);
}
