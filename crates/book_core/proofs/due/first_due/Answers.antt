use Rattle.std.proofs.Common.{arith}
use Rattle.book_core.proofs.Rooms.{queue_in}
use Rattle.book_core.proofs.Takings.{found_first, found_none, none_more, not_found}
use Rattle.book_core.proofs.due.first_due.Goals as goal

pub returns-in-Some : goal.returns-in-Some
returns-in-Some c = λ b e f g.
    found_first b c.loop-node.node c.in-Some.due (omega (arith, g, c.loop-node-test.true)) (c.loop-node.invariant b e f)
    (c.in-Some.ensures b e (queue_in b c.loop-node.node c.args.queues.now c.index-queues-node.result f c.loop-node-test.true c.index-queues-node.is))

pub loop-node-preserved : goal.loop-node-preserved
loop-node-preserved c = λ b e f.
    none_more b c.loop-node.node c.due_at.result (not_found c.due_at.result c.in_default.not-Some)
    (c.due_at.ensures b e (queue_in b c.loop-node.node c.args.queues.now c.index-queues-node.result f c.loop-node-test.true c.index-queues-node.is)) (c.loop-node.invariant b e f)

pub returns : goal.returns
returns c = λ b e f g. found_none b (λ k less. c.loop-node.invariant b e f k (omega (arith, less, g, c.loop-node-test.false)))
