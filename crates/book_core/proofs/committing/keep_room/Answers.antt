use Rattle.std.proofs.Common.{ℕ, ◌+◌}
use Rattle.book_core.specs.Committing.{HasRoom}
use Rattle.book_core.proofs.CommitRooms.{group_rooms}
use Rattle.book_core.proofs.committing.keep_room.Goals as goal

pub returns-clause-groups : goal.returns-clause-groups
returns-clause-groups c =
    group_rooms c.args.plan.now c.as_slice.result.now (λ (n : ℕ). HasRoom c.keep_at_groups.new.queues.items c.keep_at_groups.new.held n (c.args.fired + 1)) c.as_slice.ensures
    c.in_ok-keep_at_groups.ensures.ok
