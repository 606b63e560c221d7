use Rattle.std.proofs.Common.{List, map, subst}
use Rattle.std.specs.List.{flat_map}
use Rattle.beam_values.specs.declared.cell.Pane.{Pane}
use Rattle.beam_values.specs.declared.piece.Piece.{Piece}
use Rattle.beam_model.specs.Holds.{piece_hold}
use Rattle.stateful_core.specs.declared.data.KeyData.{KeyData}
use Rattle.book_core.specs.declared.live.Batch.{Batch}
use Rattle.book_core.specs.declared.live.WaitingPane.{WaitingPane}
use Rattle.stored_books.specs.Held.{AreHeldOn, batch_holds, key_data_holds, own_hold}
use Rattle.stored_books.proofs.FurtherHolds.{on_four}
use Rattle.stored_books.proofs.Tests.{alike}
use Rattle.stored_books.proofs.least.hold_all.Goals as goal

pub returns : goal.returns
returns c =
    let plan = c.args.plan.now in
    let stored = c.args.stored.now in
    let a = c.args.least.now in
    let b = c.hold_pieces.new.least in
    let d = c.hold_waiting.new.least in
    let e = c.hold_returned.new.least in
    let f = c.hold_keys.new.least in
    on_four (map (piece_hold plan) stored.pending) (flat_map (own_hold stored.panes) stored.waiting) (flat_map batch_holds stored.returned)
    (flat_map key_data_holds stored.keys) a b d e f
    (subst (λ (l : List Piece). AreHeldOn (map (piece_hold plan) l) a b) c.as_slice.ensures c.hold_pieces.ensures)
    (alike (λ (p : List Pane) (w : List WaitingPane). AreHeldOn (flat_map (own_hold p) w) b d) c.as_slice-2.ensures c.as_slice-3.ensures c.hold_waiting.ensures)
    (subst (λ (l : List Batch). AreHeldOn (flat_map batch_holds l) d e) c.as_slice-4.ensures c.hold_returned.ensures)
    (subst (λ (l : List KeyData). AreHeldOn (flat_map key_data_holds l) e f) c.as_slice-5.ensures c.hold_keys.ensures)
