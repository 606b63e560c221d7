use Rattle.std.proofs.Common.{ap, map, refl, sym, ◌∙◌}
use Rattle.group_cells.specs.Commits.{cell_place}
use Rattle.group_cells.specs.Undoing.{undone}
use Rattle.group_cells.proofs.Advancing.{index_moved}
use Rattle.group_cells.proofs.UndonePlaces.{fired_places, given_places, put_places}
use Rattle.group_cells.proofs.groups.draft.undo.Goals as goal

pub returns-in-Put-clause-cells : goal.returns-in-Put-clause-cells
returns-in-Put-clause-cells c = c.undo_put.ensures ∙ ap (λ change. undone change c.args.cells.now.items) (sym c.in-Put.is)

pub returns-in-Put-clause-index : goal.returns-in-Put-clause-index
returns-in-Put-clause-index c =
    index_moved c.args.index.now c.args.index.now c.args.cells.now.items c.undo_put.new.cells.items refl (ap (map cell_place) c.undo_put.ensures ∙ put_places c.args.cells.now.items c.in-Put.place)

pub returns-in-Fired-clause-cells : goal.returns-in-Fired-clause-cells
returns-in-Fired-clause-cells c = c.undo_fired.ensures ∙ ap (λ change. undone change c.args.cells.now.items) (sym c.in-Fired.is)

pub returns-in-Fired-clause-index : goal.returns-in-Fired-clause-index
returns-in-Fired-clause-index c =
    index_moved c.args.index.now c.args.index.now c.args.cells.now.items c.undo_fired.new.cells.items refl
    (ap (map cell_place) c.undo_fired.ensures ∙ fired_places c.args.cells.now.items c.in-Fired.place c.in-Fired.before)

pub returns-in-GaveWay-clause-index : goal.returns-in-GaveWay-clause-index
returns-in-GaveWay-clause-index c =
    index_moved c.args.index.now c.args.index.now c.args.cells.now.items c.hand_back.new.cells.items refl
    (ap (map cell_place) c.hand_back.ensures ∙ given_places c.args.cells.now.items c.in-GaveWay.place c.in-GaveWay.given)
