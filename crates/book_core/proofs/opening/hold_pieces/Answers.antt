use Rattle.std.proofs.Common.{◌∙◌}
use Rattle.book_core.proofs.Opened.{one_more_held}
use Rattle.book_core.proofs.opening.hold_pieces.Goals as goal

pub loop-piece-preserved : goal.loop-piece-preserved
loop-piece-preserved c = record {
  held = one_more_held c.loop-piece.held c.keep_room.new.self c.add_kept.new.self c.args.plan.now c.args.pieces.now c.loop-piece.piece-index c.piece-item.result c.mark_of_piece.result
      c.loop-piece-test.true c.piece-item.is c.mark_of_piece.ensures c.in_ok-keep_room.ensures.marks c.add_kept.ensures.added c.loop-piece.invariant.held;
  sized = c.add_kept.ensures.sized ∙ c.in_ok-keep_room.ensures.sized ∙ c.loop-piece.invariant.sized;
}
