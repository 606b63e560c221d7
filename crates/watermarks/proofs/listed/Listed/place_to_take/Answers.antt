use Rattle.std.proofs.Common.{List, subst, sym}
use Rattle.std.specs.Prelude.{Contains}
use Rattle.watermarks.specs.declared.listed.Held.{Held}
use Rattle.watermarks.specs.HeldMarks.{marks_of}
use Rattle.watermarks.proofs.BagMembers.{bag_contains}
use Rattle.watermarks.proofs.listed.Listed.place_to_take.Goals as goal

pub unreachable-requires : goal.unreachable-requires
unreachable-requires c =
    let new = c.put_in_order.new.self.items.items in
    let there = bag_contains (marks_of c.args.self.now.items.items) (marks_of new) c.args.m c.put_in_order.ensures.same c.requires.held in
    c.place_of-2.ensures.none c.in-None.is (subst (λ (l : List Held). Contains (marks_of l) c.args.m) (sym c.as_slice-3.ensures.value) there)
