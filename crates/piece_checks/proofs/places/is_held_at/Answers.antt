use Rattle.std.proofs.Common.{length, refl}
use Rattle.std.proofs.lemmas.Option.{slice_get_past, slice_get_read}
use Rattle.piece_checks.proofs.HeldPlaces.{held_here, held_nowhere}
use Rattle.piece_checks.proofs.places.is_held_at.Goals as goal

pub returns-in-Some : goal.returns-in-Some
returns-in-Some c =
    let panes = c.args.panes.now in
    let held = c.args.held.now in
    let pane = c.in-Some.pane.now in
    held_here panes held pane (slice_get_read panes (length panes) held.pane pane refl c.in-Some.ensures.lookup.3.0 c.in-Some.ensures.lookup.1)

pub returns-in-None : goal.returns-in-None
returns-in-None c =
    held_nowhere c.args.panes.now c.args.held.now (slice_get_past c.args.panes.now c.args.held.now.pane c.in-None.ensures.lookup.3)
