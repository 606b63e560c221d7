use Rattle.std.proofs.Common.{List, subst, sym}
use Rattle.stateful_core.specs.Names.{AreFound, names_of}
use Rattle.stateful_core.specs.Seen.{cells_of}
use Rattle.stateful_core.specs.declared.slot.Slot.{Slot}
use Rattle.stateful_core.proofs.Named.{bare}
use Rattle.stateful_core.proofs.keys.Keys.log.Goals as goal

pub number_of-requires : goal.number_of-requires
number_of-requires c =
    let was = c.self.inside in
    subst (λ (l : List Slot). AreFound c.self.inside.index.numbers.places (names_of (cells_of l))) (sym c.as_slice.ensures.value)
    (bare was.index.numbers.places was.slots.items was.fresh.items c.self.invariant.stored)
