use Rattle.pipeline_graph.proofs.FollowerMeanings.{followers_agree}
use Rattle.pipeline_graph.proofs.laws.followers_take_elements_of_their_strategy.Goals as goal

pub returns : goal.returns
returns c = followers_agree
