use Rattle.pipeline_graph.proofs.CheckedPlans.{inputs_lower, inputs_no_writes}
use Rattle.pipeline_graph.proofs.laws.inputs_are_lower_and_put_something_out.Goals as goal

pub returns : goal.returns
returns c = record { lower = inputs_lower; no_writes = inputs_no_writes }
