use Rattle.std.proofs.Common.{arith, sym, ap, subst, ◌≡◌, length, List, Some}
use Rattle.stateful_core.specs.Seen.{cells_of}
use Rattle.stateful_core.specs.Taking.{next_place}
use Rattle.stateful_core.specs.Trees.{AreTrees}
use Rattle.stateful_core.specs.declared.node_tree.NodeTree.{NodeTree}
use Rattle.stateful_core.specs.declared.slot.Slot.{Slot}
use Rattle.stateful_core.proofs.KeptSteps.{kept_job}
use Rattle.stateful_core.proofs.ReadyTests.{if_found, if_within}
use Rattle.stateful_core.proofs.keys.Keys.take_job.Goals as goal

pub turn_at-requires-clause-next : goal.turn_at-requires-clause-next
turn_at-requires-clause-next c =
    let due = subst (λ (l : List NodeTree). AreTrees l (cells_of c.self.inside.slots.items)) (sym c.as_slice.ensures.value) c.self.invariant.due in
    sym (subst (λ (l : List Slot). Some c.in-Some.place ≡ next_place c.args.marks.now (cells_of l)) (sym c.as_slice-2.ensures.value) (c.in-Some.ensures (cells_of c.self.inside.slots.items) due))

pub turn_at-requires-clause-first : goal.turn_at-requires-clause-first
turn_at-requires-clause-first c =
    let due = subst (λ (l : List NodeTree). AreTrees l (cells_of c.self.inside.slots.items)) (sym c.as_slice.ensures.value) c.self.invariant.due in
    if_found c.args.marks.now c.as_slice-2.result.now (Some c.in-Some.place)
    (subst (λ (l : List Slot). Some c.in-Some.place ≡ next_place c.args.marks.now (cells_of l)) (sym c.as_slice-2.ensures.value) (c.in-Some.ensures (cells_of c.self.inside.slots.items) due))

pub turn_at-requires-clause-within : goal.turn_at-requires-clause-within
turn_at-requires-clause-within c =
    let due = subst (λ (l : List NodeTree). AreTrees l (cells_of c.self.inside.slots.items)) (sym c.as_slice.ensures.value) c.self.invariant.due in
    if_within c.args.marks.now c.as_slice-2.result.now (Some c.in-Some.place)
    (subst (λ (l : List Slot). Some c.in-Some.place ≡ next_place c.args.marks.now (cells_of l)) (sym c.as_slice-2.ensures.value) (c.in-Some.ensures (cells_of c.self.inside.slots.items) due))

pub start-requires : goal.start-requires
start-requires c =
    let due = subst (λ (l : List NodeTree). AreTrees l (cells_of c.self.inside.slots.items)) (sym c.as_slice.ensures.value) c.self.invariant.due in
    if_within c.args.marks.now c.self.inside.slots.items (Some c.in-Some.place) (c.in-Some.ensures (cells_of c.self.inside.slots.items) due)

pub renew_at-requires : goal.renew_at-requires
renew_at-requires c =
    let due = subst (λ (l : List NodeTree). AreTrees l (cells_of c.self.inside.slots.items)) (sym c.as_slice.ensures.value) c.self.invariant.due in
    let less = if_within c.args.marks.now c.self.inside.slots.items (Some c.in-Some.place) (c.in-Some.ensures (cells_of c.self.inside.slots.items) due) in
    omega (arith, less, c.start.ensures.len, ap length c.as_slice-3.ensures.value)

pub invariant_of-self : goal.invariant_of-self
invariant_of-self c =
    let was = c.self.inside in
    let due = subst (λ (l : List NodeTree). AreTrees l (cells_of c.self.inside.slots.items)) (sym c.as_slice.ensures.value) c.self.invariant.due in
    let sized : length c.start.new.slots.items ≡ length c.self.inside.slots.items = omega (arith, c.start.ensures.len) in
    kept_job was.index.numbers.places was.trees.items c.renew_at.new.trees.items was.slots.items c.start.new.slots.items c.as_slice-3.result.now was.fresh.items c.in-Some.place.at
    c.as_slice-3.ensures.value (if_within c.args.marks.now c.self.inside.slots.items (Some c.in-Some.place) (c.in-Some.ensures (cells_of c.self.inside.slots.items) due))
    sized c.renew_at.ensures.due c.renew_at.ensures.places c.self.invariant c.args.bundle c.start.ensures.cells
