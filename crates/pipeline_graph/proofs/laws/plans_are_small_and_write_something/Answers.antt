use Rattle.pipeline_graph.proofs.CheckedPlans.{few_nodes, some_write, few_files_together}
use Rattle.pipeline_graph.proofs.laws.plans_are_small_and_write_something.Goals as goal

pub returns : goal.returns
returns c = record { nodes = few_nodes; write = some_write; files = few_files_together }
