use Rattle.std.proofs.Common.{arith, ◌∙◌}
use Rattle.std.proofs.lemmas.Option.{slice_get_within}
use Rattle.book_core.proofs.CommitRooms.{rooms_more}
use Rattle.book_core.proofs.committing.keep_at_groups.Goals as goal

pub loop-n-preserved : goal.loop-n-preserved
loop-n-preserved c = record {
  rooms =
      rooms_more c.args.nodes.now c.loop-n.n c.index-nodes-n.result c.loop-n.queues.items c.keep_if_group.new.queues.items c.loop-n.held c.keep_if_group.new.held c.args.places
      c.loop-n-test.true c.index-nodes-n.is c.in_ok-keep_if_group.ensures.ok c.in_ok-keep_if_group.ensures.kept_at c.loop-n.invariant.rooms;
  panes = c.in_ok-keep_if_group.ensures.panes ∙ c.loop-n.invariant.panes;
  marks = λ k. c.in_ok-keep_if_group.ensures.marks k ∙ c.loop-n.invariant.marks k;
  kept = λ k. omega (arith, c.in_ok-keep_if_group.ensures.kept k, c.loop-n.invariant.kept k);
  sized = c.in_ok-keep_if_group.ensures.sized ∙ c.loop-n.invariant.sized;
}

pub returns-clause-ok : goal.returns-clause-ok
returns-clause-ok c = λ n node at group.
    c.loop-n.invariant.rooms n node (omega (arith, slice_get_within c.args.nodes.now n node at, c.loop-n-test.false)) at group
