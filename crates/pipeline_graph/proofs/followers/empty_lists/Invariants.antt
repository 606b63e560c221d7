use Rattle.std.proofs.Common.{[]}
use Rattle.pipeline_graph.specs.Followers.{IsFollowed}
use Rattle.pipeline_graph.proofs.followers.empty_lists.Given as goal

abbrev pub invariant-loop : goal.invariant-loop
invariant-loop l = IsFollowed l.counter [] l.lists.items
