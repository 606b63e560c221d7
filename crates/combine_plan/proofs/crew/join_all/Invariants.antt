use Rattle.std.proofs.Common.{◌≡◌, ◌++◌}
use Rattle.std.specs.List.{AllByRecursion}
use Rattle.std.specs.Vec.Iter.{into_iter_items}
use Rattle.combine_plan.specs.Combined.{known_of}
use Rattle.combine_plan.specs.Dealing.{ranges_in}
use Rattle.combine_plan.specs.Folding.{IsFold}
use Rattle.combine_plan.specs.Hands.{IsSeatFolded, Scene, hands_of}
use Rattle.combine_plan.proofs.crew.join_all.Given as goal

abbrev pub invariant-loop-seat : goal.invariant-loop-seat
invariant-loop-seat g l = record {
  whole : l.fn.seats.items ≡ l.yielded ++ into_iter_items l.seat-iterator;
  fold : (scene : Scene) → AllByRecursion (IsSeatFolded g.C.Combiner.stands g.C.Combiner.takes scene) l.fn.seats.items
      → IsFold g.C.Combiner.stands (known_of scene.shelf scene.store) scene.plan (ranges_in (hands_of l.yielded)) l.partials;
}
