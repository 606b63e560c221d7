use Rattle.std.proofs.Common.{arith, ◌∙◌}
use Rattle.book_core.specs.declared.live.WaitingPane.{WaitingPane}
use Rattle.book_core.proofs.CommitRooms.{all_held, one_more}
use Rattle.book_core.proofs.committing.hold_panes.Goals as goal

pub add_kept-requires-clause-within : goal.add_kept-requires-clause-within
add_kept-requires-clause-within c = omega (arith, c.loop-pane.invariant.sized, c.requires.within)

pub add_kept-requires-clause-room : goal.add_kept-requires-clause-room
add_kept-requires-clause-room c = omega (arith, c.loop-pane.invariant.room, c.loop-pane-test.true)

pub loop-pane-preserved : goal.loop-pane-preserved
loop-pane-preserved c = record {
  held = λ holds h.
      one_more (λ (waiting : WaitingPane). record { node = c.args.node; mark = waiting.hold }) c.args.panes.now c.loop-pane.pane-index c.pane-item.result c.loop-pane.held c.add_kept.new.self holds
      c.loop-pane-test.true c.pane-item.is c.add_kept.ensures.added (c.loop-pane.invariant.held holds h);
  room = omega (arith, c.loop-pane.invariant.room, c.add_kept.ensures.used c.args.node);
  sized = c.add_kept.ensures.sized ∙ c.loop-pane.invariant.sized;
}

pub returns-clause-held : goal.returns-clause-held
returns-clause-held c = λ holds h.
    all_held (λ (waiting : WaitingPane). record { node = c.args.node; mark = waiting.hold }) c.args.panes.now c.loop-pane.pane-index c.loop-pane.held holds
    (omega (arith, c.loop-pane-test.false)) (c.loop-pane.invariant.held holds h)
