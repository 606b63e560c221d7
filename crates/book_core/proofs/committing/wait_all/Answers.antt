use Rattle.std.proofs.Common.{◌+◌, ◌++◌, arith, refl, ◌∙◌}
use Rattle.beam_model.specs.Holds.{pane_hold}
use Rattle.book_core.specs.Committing.{list_at}
use Rattle.book_core.proofs.CommitRooms.{all_held, all_wait, first_room, one_more, one_waits, room_less, still}
use Rattle.book_core.proofs.committing.wait_all.Goals as goal

pub wait-requires : goal.wait-requires
wait-requires c =
    first_room c.args.before.now c.args.first c.args.fired.now c.loop-i.i c.index-fired-i.result c.loop-i.queues.items c.loop-i.held c.loop-i-test.true c.index-fired-i.is c.loop-i.invariant.room

pub loop-i-preserved : goal.loop-i-preserved
loop-i-preserved c = record {
  lists = λ n.
      one_waits c.args.before.now c.args.first c.args.fired.now n c.loop-i.i (c.args.first + c.loop-i.i) c.index-fired-i.result
      (list_at c.args.queues.now.items n ++ still c.args.before.now c.args.first c.args.fired.now n 0) (list_at c.loop-i.queues.items n) (list_at c.wait.new.queues.items n)
      c.loop-i-test.true c.index-fired-i.is refl (c.wait.ensures.queues n) (c.loop-i.invariant.lists n);
  count = c.wait.ensures.count ∙ c.loop-i.invariant.count;
  held = λ holds h.
      one_more (pane_hold c.args.before.now) c.args.fired.now c.loop-i.i c.index-fired-i.result c.loop-i.held c.wait.new.held holds
      c.loop-i-test.true c.index-fired-i.is c.wait.ensures.held (c.loop-i.invariant.held holds h);
  room = room_less c.args.before.now c.args.first c.args.fired.now c.loop-i.i c.loop-i.queues.items c.wait.new.queues.items c.loop-i.held c.wait.new.held c.loop-i-test.true c.wait.ensures.room c.loop-i.invariant.room;
  sized = c.wait.ensures.sized ∙ c.loop-i.invariant.sized;
}

pub returns-clause-queues : goal.returns-clause-queues
returns-clause-queues c =
    all_wait c.args.before.now c.args.first c.args.fired.now c.loop-i.i c.args.queues.now.items c.loop-i.queues.items (omega (arith, c.loop-i-test.false)) c.loop-i.invariant.count c.loop-i.invariant.lists

pub returns-clause-held : goal.returns-clause-held
returns-clause-held c = λ holds h.
    all_held (pane_hold c.args.before.now) c.args.fired.now c.loop-i.i c.loop-i.held holds (omega (arith, c.loop-i-test.false)) (c.loop-i.invariant.held holds h)
