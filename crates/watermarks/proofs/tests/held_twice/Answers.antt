use Rattle.std.proofs.Common.{◌≡◌, ◌∷◌, ap, arith, length, refl}
use Rattle.beam_values.proofs.Bags.{bag_sym}
use Rattle.watermarks.specs.Holds.{SeenHolds}
use Rattle.watermarks.proofs.BagMembers.{bag_contains, bag_length}
use Rattle.watermarks.proofs.tests.held_twice.Goals as goal

pub add_again-requires-clause-held : goal.add_again-requires-clause-held
add_again-requires-clause-held c =
    let first = c.args.m ∷ c.new-holds.result.marks in
    bag_contains first c.add.new.self.marks c.args.m (bag_sym c.add.new.self.marks first c.in_ok-add.ensures.ok) (0, omega arith, refl)

pub add_again-requires-clause-few : goal.add_again-requires-clause-few
add_again-requires-clause-few c =
    let none : length c.new-holds.result.marks ≡ 0 = ap (λ (h : SeenHolds). length h.marks) c.new-holds.ensures in
    omega (arith, none, bag_length c.add.new.self.marks (c.args.m ∷ c.new-holds.result.marks) c.in_ok-add.ensures.ok)

pub remove-requires : goal.remove-requires
remove-requires c =
    let both = c.args.m ∷ c.add.new.self.marks in
    bag_contains both c.add_again.new.self.marks c.args.m (bag_sym c.add_again.new.self.marks both c.add_again.ensures.added) (0, omega arith, refl)
