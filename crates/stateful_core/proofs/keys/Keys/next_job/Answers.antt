use Rattle.std.proofs.Common.{rules, sym, subst, List, Some, ◌≡◌}
use Rattle.stateful_core.specs.Seen.{cells_of}
use Rattle.stateful_core.specs.Taking.{change, next_place, with_job}
use Rattle.stateful_core.specs.Trees.{AreTrees}
use Rattle.stateful_core.specs.declared.node_tree.NodeTree.{NodeTree}
use Rattle.stateful_core.specs.declared.slot.Slot.{Slot}
use Rattle.stateful_core.proofs.ReadyTests.{if_found, if_within}
use Rattle.stateful_core.proofs.keys.Keys.next_job.Goals as goal

pub turn_at-requires-clause-next : goal.turn_at-requires-clause-next
turn_at-requires-clause-next c =
    let due = subst (λ (l : List NodeTree). AreTrees l (cells_of c.self.inside.slots.items)) (sym c.as_slice.ensures.value) c.self.invariant.due in
    sym (subst (λ (l : List Slot). Some c.in-Some.place ≡ next_place c.args.marks.now (cells_of l)) (sym c.as_slice-2.ensures.value) (c.in-Some.ensures (cells_of c.self.inside.slots.items) due))

pub turn_at-requires-clause-first : goal.turn_at-requires-clause-first
turn_at-requires-clause-first c =
    let due = subst (λ (l : List NodeTree). AreTrees l (cells_of c.self.inside.slots.items)) (sym c.as_slice.ensures.value) c.self.invariant.due in
    if_found c.args.marks.now c.as_slice-2.result.now (Some c.in-Some.place)
    (subst (λ (l : List Slot). Some c.in-Some.place ≡ next_place c.args.marks.now (cells_of l)) (sym c.as_slice-2.ensures.value) (c.in-Some.ensures (cells_of c.self.inside.slots.items) due))

pub turn_at-requires-clause-within : goal.turn_at-requires-clause-within
turn_at-requires-clause-within c =
    let due = subst (λ (l : List NodeTree). AreTrees l (cells_of c.self.inside.slots.items)) (sym c.as_slice.ensures.value) c.self.invariant.due in
    if_within c.args.marks.now c.as_slice-2.result.now (Some c.in-Some.place)
    (subst (λ (l : List Slot). Some c.in-Some.place ≡ next_place c.args.marks.now (cells_of l)) (sym c.as_slice-2.ensures.value) (c.in-Some.ensures (cells_of c.self.inside.slots.items) due))

pub returns : goal.returns
returns c = (change (with_job c.args.bundle) c.in-Some.place.at c.args.self.now.cells, search rules)
