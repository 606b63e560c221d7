use Rattle.std.proofs.Common.{refl, arith, sym, length, ◌∙◌}
use Rattle.std.proofs.lemmas.Option.{slice_get_within}
use Rattle.book_core.specs.Committing.{list_at}
use Rattle.book_core.specs.Stored.{waits_at}
use Rattle.book_core.proofs.RestoredWaits.{all_wait, none_hold, none_yet, one_more_waits, within_at}
use Rattle.book_core.proofs.restoring.wait_again.Goals as goal

pub loop-pane-init : goal.loop-pane-init
loop-pane-init c = record {
  lists = λ n. c.requires.none n ∙ sym (none_yet (waits_at c.args.panes.now n) c.args.waiting.now);
  count = refl;
  held = λ holds h. none_hold c.args.queues.now.items c.args.held.now holds c.requires.none h;
  sized = refl;
}

pub node_of-requires : goal.node_of-requires
node_of-requires c =
    let placed =
    within_at c.args.panes.now (length c.args.queues.now.items) c.args.waiting.now c.loop-pane.pane-index c.pane-item.result c.loop-pane-test.true
    c.pane-item.is c.requires.placed in
    slice_get_within c.args.panes.now c.pane-item.result.pane placed.0 placed.1

pub wait_at-requires-clause-queued : goal.wait_at-requires-clause-queued
wait_at-requires-clause-queued c =
    let placed =
    within_at c.args.panes.now (length c.args.queues.now.items) c.args.waiting.now c.loop-pane.pane-index c.pane-item.result c.loop-pane-test.true
    c.pane-item.is c.requires.placed in
    omega (arith, placed.2, c.node_of.ensures placed.0 placed.1, c.loop-pane.invariant.count)

pub wait_at-requires-clause-holding : goal.wait_at-requires-clause-holding
wait_at-requires-clause-holding c =
    let placed =
    within_at c.args.panes.now (length c.args.queues.now.items) c.args.waiting.now c.loop-pane.pane-index c.pane-item.result c.loop-pane-test.true
    c.pane-item.is c.requires.placed in
    omega (arith, placed.2, c.node_of.ensures placed.0 placed.1, c.loop-pane.invariant.sized, c.requires.sized)

pub loop-pane-preserved : goal.loop-pane-preserved
loop-pane-preserved c =
    let placed =
    within_at c.args.panes.now (length c.args.queues.now.items) c.args.waiting.now c.loop-pane.pane-index c.pane-item.result c.loop-pane-test.true
    c.pane-item.is c.requires.placed in
    record {
      lists = λ n.
          one_more_waits c.args.panes.now (length c.args.queues.now.items) c.args.waiting.now c.loop-pane.pane-index c.pane-item.result c.node_of.result n
          (list_at c.loop-pane.queues.items n) (list_at c.wait_at.new.queues.items n) c.loop-pane-test.true c.pane-item.is placed c.node_of.ensures
          (c.loop-pane.invariant.lists n) (c.in_ok-wait_at.ensures.queues n);
      count = c.in_ok-wait_at.ensures.count ∙ c.loop-pane.invariant.count;
      held = λ holds h. c.in_ok-wait_at.ensures.held holds (c.loop-pane.invariant.held holds h);
      sized = c.in_ok-wait_at.ensures.sized ∙ c.loop-pane.invariant.sized;
    }

pub returns-clause-queues : goal.returns-clause-queues
returns-clause-queues c = λ nodes sized.
    all_wait c.args.panes.now c.args.waiting.now c.loop-pane.pane-index c.loop-pane.queues.items (omega (arith, c.loop-pane-test.false))
    c.loop-pane.invariant.lists nodes
    (sized ∙ sym c.loop-pane.invariant.count)
