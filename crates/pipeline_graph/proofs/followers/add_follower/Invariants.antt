use Rattle.std.proofs.Common.{take}
use Rattle.pipeline_graph.proofs.FollowerLists.{IsAdded}
use Rattle.pipeline_graph.proofs.followers.add_follower.Given as goal

abbrev pub invariant-loop-input : goal.invariant-loop-input
invariant-loop-input l = IsAdded l.number (take l.input-index l.inputs) l.fn.followers.items l.followers.items
