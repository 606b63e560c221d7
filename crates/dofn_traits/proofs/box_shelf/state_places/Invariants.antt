use Rattle.std.proofs.Common.{◌≡◌, ℕ, ◌<◌, ◌==◌, length, get_or, position, Some}
use Rattle.dofn_traits.specs.Shelves.{state_kinds, state_number}
use Rattle.dofn_traits.proofs.box_shelf.state_places.Given as goal

abbrev pub invariant-loop-number : goal.invariant-loop-number
invariant-loop-number g l = record {
  size : length l.places ≡ length state_kinds;
  placed : (n : ℕ) → n < l.number → position (λ box. state_number (g.T.StatefulFn.work box) == n) l.states ≡ Some (get_or l.places n 0);
}
