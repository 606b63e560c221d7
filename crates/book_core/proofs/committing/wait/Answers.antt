use Rattle.std.proofs.Common.{◌++◌, ◌∷◌, [], ℤ, arith, ap, ◌∙◌}
use Rattle.book_core.proofs.CommitRooms.{list_set, one_less}
use Rattle.book_core.proofs.committing.wait.Goals as goal

pub returns-clause-queues : goal.returns-clause-queues
returns-clause-queues c =
    list_set c.args.queues.now.items c.args.pane.now.node c.index_mut-queue.result.now c.add_kept.new.self c.requires.queued c.index_mut-queue.ensures.value
    _ (c.add_kept.ensures.panes ∙ ap (λ (m : ℤ). c.index_mut-queue.result.now.panes ++ record { pane = c.args.place; hold = m } ∷ []) c.hold_of-hold.ensures)

pub returns-clause-room : goal.returns-clause-room
returns-clause-room c =
    one_less c.args.queues.now.items c.args.pane.now.node c.index_mut-queue.result.now c.add_kept.new.self c.requires.queued c.index_mut-queue.ensures.value
    c.args.held.now c.add_kept-2.new.self (omega (arith, c.add_kept.ensures.used)) c.add_kept-2.ensures.used c.add_kept-2.ensures.sized
