use Rattle.book_core.proofs.Takings.{lowest_more}
use Rattle.book_core.proofs.due.lowest_at.Goals as goal

pub loop-at-preserved : goal.loop-at-preserved
loop-at-preserved c =
    lowest_more c.args.returned.now c.args.node c.loop-at.at c.loop-at.lowest c.lower_at-lowest.result c.loop-at-test.true c.lower_at-lowest.ensures c.loop-at.invariant
