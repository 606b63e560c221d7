use Rattle.std.proofs.Common.{◌≡◌, ◌∙◌, ℤ, List, Some, ap, subst, sym}
use Rattle.std.specs.Prelude.{◌<ℤ◌, map, slice_get}
use Rattle.std.specs.Option.{option_map}
use Rattle.std.proofs.lemmas.Option.{slice_get-get_or, slice_get-map}
use Rattle.watermarks.specs.Holds.{hold_at}
use Rattle.stateful_core.specs.Cells.{key_holds}
use Rattle.stateful_core.specs.Least.{AreLeast, tree_hold}
use Rattle.stateful_core.specs.Opening.{done_of}
use Rattle.stateful_core.specs.Seen.{cell_of, cells_of}
use Rattle.stateful_core.specs.declared.node_tree.NodeTree.{NodeTree}
use Rattle.stateful_core.specs.declared.slot.Slot.{Slot}
use Rattle.stateful_core.proofs.BesideHolds.{beside_held}
use Rattle.stateful_core.proofs.TreeHolds.{least_of_trees, trees_held}
use Rattle.stateful_core.proofs.holding.lower_beside.Goals as goal

pub returns-then-is_below-clause-least : goal.returns-then-is_below-clause-least
returns-then-is_below-clause-least c = λ h.
    let slots = c.args.slots.now in
    let at = c.args.done.now.cell in
    let slot = c.index-slots-done.result in
    let there : slice_get (cells_of c.args.slots.now) c.args.done.now.cell ≡ Some (cell_of c.index-slots-done.result) =
    slice_get-map cell_of slots at ∙ ap (option_map cell_of) (slice_get-get_or slots at slot c.requires.stands ∙ ap (λ (s : Slot). Some s) (sym c.index-slots-done.is)) in
    let was : AreLeast c.lower_trees.new.least (key_holds (cells_of c.args.slots.now)) =
    least_of_trees c.args.trees.now.items (cells_of slots) c.lower_trees.new.least (trees_held c.args.trees.now.items (cells_of slots) c.requires.trees)
    (subst (λ (l : List NodeTree). AreLeast c.lower_trees.new.least (map tree_hold l)) c.as_slice.ensures.value (c.lower_trees.ensures.least h)) in
    beside_held c.args.before.now (done_of c.args.done.now) (cells_of slots) (cell_of slot) c.lower_trees.new.least c.lower.new.least c.hold_after.result there was
    (subst (λ (own : ℤ). hold_at c.lower_trees.new.least c.index-slots-done.result.node <ℤ own) c.cell_hold.ensures (c.is_below.ensures c.if-is_below.true))
    c.hold_after.ensures c.lower.ensures.sized (c.lower.ensures.least (key_holds (cells_of slots)) was)
