use Rattle.book_core.proofs.CommitRooms.{lists_stay}
use Rattle.book_core.proofs.committing.keep_at.Goals as goal

pub returns-clause-panes : goal.returns-clause-panes
returns-clause-panes c =
    lists_stay c.args.queues.now.items c.args.node c.index_mut-queue.result.now c.keep_room-2.new.self c.requires.queued c.index_mut-queue.ensures.value c.keep_room-2.ensures.panes
