use Rattle.std.proofs.Common.{◌<◌, ◌++◌, List, length, map, ap, sym, subst, ◌∙◌}
use Rattle.std.specs.List.{All}
use Rattle.beam_values.specs.declared.cell.Pane.{Pane}
use Rattle.beam_values.specs.declared.piece.Piece.{Piece}
use Rattle.beam_values.specs.declared.plan.Plan.{Plan}
use Rattle.beam_model.specs.Holds.{piece_hold}
use Rattle.book_core.specs.Indexes.{AreHeldIn}
use Rattle.book_core.specs.Restoring.{WaitsWithin, batch_holds, queue_holds, queues_at}
use Rattle.book_core.specs.declared.live.Batch.{Batch}
use Rattle.book_core.specs.declared.live.WaitingPane.{WaitingPane}
use Rattle.book_core.proofs.RestoredWaits.{batches_within, empty_at, own_held, pieces_within, queues_sized, waiting_within}
use Rattle.book_core.proofs.Rooms.{lists_of}
use Rattle.book_core.proofs.restoring.restore.Goals as goal

pub hold_pieces-requires-clause-within : goal.hold_pieces-requires-clause-within
hold_pieces-requires-clause-within c =
    subst (λ (pieces : List Piece). All (λ piece. piece.node < length c.args.plan.now.nodes) pieces) (sym c.as_slice-3.ensures)
    (pieces_within c.args.plan.now c.args.stored.now c.requires)

pub wait_again-requires-clause-none : goal.wait_again-requires-clause-none
wait_again-requires-clause-none c = empty_at c.in_ok-queues.queues.items c.as_slice-2.result.now c.in_ok-queues.ensures

pub wait_again-requires-clause-sized : goal.wait_again-requires-clause-sized
wait_again-requires-clause-sized c =
    c.in_ok-held.ensures.sized ∙ ap length (sym c.as_slice-2.ensures)
    ∙ sym (queues_sized c.in_ok-queues.queues.items c.as_slice-2.result.now c.in_ok-queues.ensures)

pub wait_again-requires-clause-placed : goal.wait_again-requires-clause-placed
wait_again-requires-clause-placed c =
    let sized = queues_sized c.in_ok-queues.queues.items c.as_slice-2.result.now c.in_ok-queues.ensures ∙ ap length c.as_slice-2.ensures in
    subst (λ (count : _). All (WaitsWithin c.as_slice-panes.result.now count) c.as_slice-4.result.now) (sym sized)
    (subst (λ (panes : List Pane). All (WaitsWithin panes (length c.args.plan.now.nodes)) c.as_slice-4.result.now) (sym c.as_slice-panes.ensures)
    (subst (λ (waiting : List WaitingPane). All (WaitsWithin c.args.stored.now.panes (length c.args.plan.now.nodes)) waiting) (sym c.as_slice-4.ensures)
    (waiting_within c.args.plan.now c.args.stored.now c.requires)))

pub hold_returned-requires : goal.hold_returned-requires
hold_returned-requires c =
    subst (λ (count : _). All (λ batch. batch.node < count) c.as_slice-5.result.now) (sym (c.in_ok-wait_again.ensures.sized ∙ c.in_ok-held.ensures.sized))
    (subst (λ (batches : List Batch). All (λ batch. batch.node < length c.args.plan.now.nodes) batches) (sym c.as_slice-5.ensures)
    (batches_within c.args.plan.now c.args.stored.now c.requires))

pub returns-clause-queues : goal.returns-clause-queues
returns-clause-queues c =
    let sized = queues_sized c.in_ok-queues.queues.items c.as_slice-2.result.now c.in_ok-queues.ensures ∙ ap length c.as_slice-2.ensures in
    c.in_ok-wait_again.ensures.queues c.args.stored.now.plan.nodes (ap (λ (plan : Plan). length plan.nodes) c.requires.of_plan ∙ sym sized)
    ∙ ap (λ (panes : List Pane). queues_at panes c.as_slice-4.result.now c.args.stored.now.plan.nodes) c.as_slice-panes.ensures
    ∙ ap (λ (waiting : List WaitingPane). queues_at c.args.stored.now.panes waiting c.args.stored.now.plan.nodes) c.as_slice-4.ensures

pub returns-clause-held : goal.returns-clause-held
returns-clause-held c =
    let pieces = subst (λ (l : List Piece). AreHeldIn c.in_ok-held.held (map (piece_hold c.args.plan.now) l)) c.as_slice-3.ensures c.in_ok-held.ensures.held in
    let queues = c.in_ok-wait_again.ensures.held (map (piece_hold c.args.plan.now) c.args.stored.now.pending) pieces in
    let others = queue_holds (lists_of c.wait_again.new.queues.items) ++ map (piece_hold c.args.plan.now) c.args.stored.now.pending in
    let batches = c.in_ok-hold_returned.ensures.held others queues in
    own_held c.args.plan.now c.args.stored.now c.requires c.hold_returned.new.held (lists_of c.wait_again.new.queues.items) (returns-clause-queues c)
    (subst (λ (l : List Batch). AreHeldIn c.hold_returned.new.held (batch_holds l ++ others)) c.as_slice-5.ensures batches)
