-- What `{}` prints of a refusal.
use Rattle.std.specs.Prelude.{ℕ, List, codes}
use Rattle.beam_values.specs.Messages.{graph_message}
use Rattle.pipeline_graph.specs.declared.refusal.CheckRefusal.{CheckRefusal}
use Rattle.pipeline_graph.specs.declared.refusal.CheckRefusal.TheVariants.{Bad, NoMemory}

abbrev pub check_message : CheckRefusal → List ℕ
check_message (Bad refusal) = graph_message refusal
check_message NoMemory = codes "no memory"
