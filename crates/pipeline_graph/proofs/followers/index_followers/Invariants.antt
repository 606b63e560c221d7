use Rattle.std.proofs.Common.{length, take}
use Rattle.pipeline_graph.specs.Followers.{IsFollowed}
use Rattle.pipeline_graph.proofs.followers.index_followers.Given as goal

abbrev pub invariant-loop-number : goal.invariant-loop-number
invariant-loop-number l = IsFollowed (length l.nodes) (take l.number l.nodes) l.followers.items
