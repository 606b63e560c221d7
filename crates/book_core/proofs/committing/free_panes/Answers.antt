use Rattle.std.proofs.Common.{◌+◌, arith, drop, ◌∙◌, ◌++◌}
use Rattle.book_core.specs.Committing.{pane_holds}
use Rattle.book_core.specs.declared.live.WaitingPane.{WaitingPane}
use Rattle.book_core.proofs.CommitRooms.{first_left, none_left}
use Rattle.book_core.proofs.HeldMarks.{held_mark, held_within}
use Rattle.book_core.proofs.committing.free_panes.Goals as goal

pub remove-requires-clause-within : goal.remove-requires-clause-within
remove-requires-clause-within c =
    held_within c.loop-pane.held (record { node = c.args.node; mark = c.pane-item.result.hold }) (pane_holds c.args.node (drop (c.loop-pane.pane-index + 1) c.args.panes.now) ++ c.requires.0)
    (first_left (λ (waiting : WaitingPane). record { node = c.args.node; mark = waiting.hold }) c.args.panes.now c.loop-pane.pane-index c.pane-item.result c.loop-pane.held c.requires.0
    c.loop-pane-test.true c.pane-item.is (c.loop-pane.invariant.freed c.requires.0 c.requires.1))

pub remove-requires-clause-held : goal.remove-requires-clause-held
remove-requires-clause-held c =
    held_mark c.loop-pane.held (record { node = c.args.node; mark = c.pane-item.result.hold }) (pane_holds c.args.node (drop (c.loop-pane.pane-index + 1) c.args.panes.now) ++ c.requires.0)
    (first_left (λ (waiting : WaitingPane). record { node = c.args.node; mark = waiting.hold }) c.args.panes.now c.loop-pane.pane-index c.pane-item.result c.loop-pane.held c.requires.0
    c.loop-pane-test.true c.pane-item.is (c.loop-pane.invariant.freed c.requires.0 c.requires.1))

pub loop-pane-preserved : goal.loop-pane-preserved
loop-pane-preserved c = record {
  freed = λ holds h.
      c.remove.ensures.removed (pane_holds c.args.node (drop (c.loop-pane.pane-index + 1) c.args.panes.now) ++ holds)
      (first_left (λ (waiting : WaitingPane). record { node = c.args.node; mark = waiting.hold }) c.args.panes.now c.loop-pane.pane-index c.pane-item.result c.loop-pane.held holds
      c.loop-pane-test.true c.pane-item.is (c.loop-pane.invariant.freed holds h));
  kept = λ n. omega (arith, c.loop-pane.invariant.kept n, c.remove.ensures.kept n);
  sized = c.remove.ensures.sized ∙ c.loop-pane.invariant.sized;
}

pub returns-clause-freed : goal.returns-clause-freed
returns-clause-freed c = λ holds h.
    none_left (λ (waiting : WaitingPane). record { node = c.args.node; mark = waiting.hold }) c.args.panes.now c.loop-pane.pane-index c.loop-pane.held holds
    (omega (arith, c.loop-pane-test.false)) (c.loop-pane.invariant.freed holds h)
