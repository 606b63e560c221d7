use Rattle.pipeline_graph.proofs.FollowerChains.{chain-followers}
use Rattle.pipeline_graph.proofs.laws.chains_go_by_followers.Goals as goal

pub returns : goal.returns
returns c = chain-followers
