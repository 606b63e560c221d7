use Rattle.std.specs.Vec.Iter.{into_iter_items}
use Rattle.stateful_core.specs.Seen.{cells_of}
use Rattle.stateful_core.proofs.Distinct.{next_apart}
use Rattle.stateful_core.proofs.restoring.restore_all.Goals as goal

pub restore_one-requires-clause-other : goal.restore_one-requires-clause-other
restore_one-requires-clause-other c =
    next_apart c.args.keys c.loop-own.yielded (into_iter_items c.loop-own.own-iterator) (into_iter_items c.next.new.self) c.in-Some.own
    (cells_of c.loop-own.restored.slots.items)
    c.loop-own.invariant.whole c.in-Some.ensures.steps.0 c.loop-own.invariant.cells c.requires.once
