use Rattle.std.proofs.Common.{◌++◌, List, subst, ◌∙◌}
use Rattle.book_core.specs.Committing.{pane_holds}
use Rattle.book_core.specs.Indexes.{AreHeldIn}
use Rattle.book_core.specs.declared.live.WaitingPane.{WaitingPane}
use Rattle.book_core.proofs.RestoredWaits.{one_more_batch}
use Rattle.book_core.proofs.restoring.hold_returned.Goals as goal

pub loop-batch-preserved : goal.loop-batch-preserved
loop-batch-preserved c = record {
  held = λ holds h.
      one_more_batch c.args.returned.now c.loop-batch.batch-index c.batch-item.result c.loop-batch.held c.keep_room.new.self c.hold_panes.new.held
      c.loop-batch-test.true c.batch-item.is c.in_ok-keep_room.ensures.marks
      (λ hs k. subst (λ (panes : List WaitingPane). AreHeldIn c.hold_panes.new.held (pane_holds c.batch-item.result.node panes ++ hs)) c.as_slice.ensures
      (c.hold_panes.ensures.held hs k))
      holds (c.loop-batch.invariant.held holds h);
  sized = c.hold_panes.ensures.sized ∙ c.in_ok-keep_room.ensures.sized ∙ c.loop-batch.invariant.sized;
}
