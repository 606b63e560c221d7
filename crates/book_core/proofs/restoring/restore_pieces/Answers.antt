use Rattle.book_core.proofs.RestoredWaits.{piece_before}
use Rattle.book_core.proofs.restoring.restore_pieces.Goals as goal

pub loop-behind-preserved : goal.loop-behind-preserved
loop-behind-preserved c =
    piece_before c.args.pending.now c.loop-behind.behind c.index-pending-pending.result c.loop-behind.pieces.pending c.add_residual.new.self.pending
    c.loop-behind-test.true c.index-pending-pending.is c.requires c.loop-behind.invariant c.in_ok-add_residual.ensures.ok
