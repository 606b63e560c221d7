use Rattle.std.proofs.Common.{◌≡◌, ◌∙◌, List, Some, ap, refl, subst, sym}
use Rattle.std.specs.Prelude.{map, slice_get}
use Rattle.std.specs.Option.{option_map}
use Rattle.std.proofs.lemmas.Option.{slice_get-get_or, slice_get-map}
use Rattle.beam_values.specs.Times.{final_mark}
use Rattle.beam_model.specs.Holds.{least_hold}
use Rattle.stateful_core.specs.Cells.{cell_holds}
use Rattle.stateful_core.specs.Least.{AreLeast, tree_hold}
use Rattle.stateful_core.specs.Opening.{done_of}
use Rattle.stateful_core.specs.Placing.{finish, with_done}
use Rattle.stateful_core.specs.Seen.{cell_of, cells_of}
use Rattle.stateful_core.specs.declared.node_tree.NodeTree.{NodeTree}
use Rattle.stateful_core.specs.declared.slot.Slot.{Slot}
use Rattle.stateful_core.proofs.TreeHolds.{done_held, least_of_trees, set_open}
use Rattle.stateful_core.proofs.holding.lower_anew.Goals as goal

pub returns-clause-trees : goal.returns-clause-trees
returns-clause-trees c =
    let slots = c.args.slots.now in
    let at = c.args.done.now.cell in
    let slot = c.index-slots-at.result in
    let there : slice_get (cells_of c.args.slots.now) c.args.done.now.cell ≡ Some (cell_of c.index-slots-at.result) =
    slice_get-map cell_of slots at ∙ ap (option_map cell_of) (slice_get-get_or slots at slot c.requires.stands ∙ ap (λ (s : Slot). Some s) (sym c.index-slots-at.is)) in
    let hold = least_hold (cell_holds (with_done c.args.before.now (done_of c.args.done.now) (cell_of slot))) slot.node in
    c.renew_at.ensures.due (set_open c.args.trees.now.items c.set_done.new.trees.items (cells_of slots) at (cell_of slot) (record { due = final_mark; hold = hold }) there c.requires.trees c.set_done.ensures)

pub returns-clause-least : goal.returns-clause-least
returns-clause-least c =
    let slots = c.args.slots.now in
    let at = c.args.done.now.cell in
    let slot = c.index-slots-at.result in
    let there : slice_get (cells_of c.args.slots.now) c.args.done.now.cell ≡ Some (cell_of c.index-slots-at.result) =
    slice_get-map cell_of slots at ∙ ap (option_map cell_of) (slice_get-get_or slots at slot c.requires.stands ∙ ap (λ (s : Slot). Some s) (sym c.index-slots-at.is)) in
    let hold = least_hold (cell_holds (with_done c.args.before.now (done_of c.args.done.now) (cell_of slot))) slot.node in
    least_of_trees c.set_done.new.trees.items (finish c.args.before.now (Some (done_of c.args.done.now)) (cells_of slots)) c.lower_trees.new.least
    (done_held c.args.before.now (done_of c.args.done.now) c.args.trees.now.items c.set_done.new.trees.items (cells_of slots) (cell_of slot) (record { due = final_mark; hold = hold }) there refl c.requires.trees
    c.set_done.ensures)
    (subst (λ (l : List NodeTree). AreLeast c.lower_trees.new.least (map tree_hold l)) c.as_slice.ensures.value (c.lower_trees.ensures.least c.hold_none.ensures.none))
