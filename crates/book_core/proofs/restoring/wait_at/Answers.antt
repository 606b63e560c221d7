use Rattle.book_core.proofs.RestoredWaits.{one_more_holds}
use Rattle.book_core.proofs.restoring.wait_at.Goals as goal

pub returns-clause-held : goal.returns-clause-held
returns-clause-held c =
    one_more_holds c.args.queues.now.items c.wait_in.new.queues.items c.args.node c.args.waiting c.requires.queued c.in_ok-wait_in.ensures.set
    c.args.held.now c.keep_room.new.self c.add_kept.new.self c.in_ok-keep_room.ensures.marks c.add_kept.ensures.added
