use Rattle.pipeline_graph.proofs.FollowerLists.{followed_more}
use Rattle.pipeline_graph.proofs.followers.index_followers.Goals as goal

pub loop-number-preserved : goal.loop-number-preserved
loop-number-preserved c =
    followed_more c.args.nodes.now c.loop-number.number c.index-nodes-number.result c.as_slice.result.now c.loop-number.followers.items c.add_follower.new.followers.items c.loop-number-test.true c.index-nodes-number.is c.as_slice.ensures c.loop-number.invariant
    (record { each = c.in_ok-add_follower.ensures.each; added = c.in_ok-add_follower.ensures.added })
