use Rattle.pipeline_graph.proofs.CheckedPlans.{goes_forward}
use Rattle.pipeline_graph.proofs.laws.allowed_functions_go_forward.Goals as goal

pub returns : goal.returns
returns c = goes_forward
