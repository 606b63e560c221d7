use Rattle.pipeline_graph.proofs.FollowerChains.{followers_later}
use Rattle.pipeline_graph.proofs.FollowerMeanings.{followers_ascend, times_followed}
use Rattle.pipeline_graph.proofs.laws.followers_name_the_node.Goals as goal

pub returns : goal.returns
returns c = record { times = times_followed; ascend = followers_ascend; later = followers_later }
