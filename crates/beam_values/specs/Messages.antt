-- What `{}` prints of a refusal and of a fault.
use Rattle.std.specs.Prelude.{ℕ, List, ◌++◌, codes, decimal}
use Rattle.beam_values.specs.declared.fault.Cause.{Cause}
use Rattle.beam_values.specs.declared.fault.Cause.TheVariants.{Call, Read}
use Rattle.beam_values.specs.declared.fault.FaultNote.{FaultNote}
use Rattle.beam_values.specs.declared.graph_refusal.GraphRefusal.{GraphRefusal}
use Rattle.beam_values.specs.declared.graph_refusal.GraphRefusal.TheVariants as graph

abbrev pub graph_message : GraphRefusal → List ℕ
graph_message graph.Empty = codes "there is no node"
graph_message graph.TooMany = codes "there are more than 64 nodes"
graph_message (graph.Input node) = codes "an input of node " ++ decimal node ++ codes " isn't a lower node"
graph_message (graph.Arity node) = codes "node " ++ decimal node ++ codes " has too few inputs or too many"
graph_message graph.NoWrite = codes "nothing is written"
graph_message (graph.Kind node) = codes "node " ++ decimal node ++ codes " takes from a write"
graph_message (graph.Setting node) = codes "a setting of node " ++ decimal node ++ codes " isn't allowed there"
graph_message (graph.SourceWithInput node) = codes "node " ++ decimal node ++ codes " is a source with an input"

abbrev pub cause_word : Cause → List ℕ
cause_word Call = codes "call"
cause_word Read = codes "read"

abbrev pub attempt_message : FaultNote → List ℕ
attempt_message note = codes " at " ++ (decimal note.at ++ (codes " attempt " ++ (decimal note.attempt ++ (codes " " ++ cause_word note.cause))))

abbrev pub place_message : FaultNote → List ℕ
place_message note = codes "node " ++ (decimal note.node ++ (codes " item " ++ decimal note.item))

abbrev pub fault_message : FaultNote → List ℕ
fault_message note = place_message note ++ attempt_message note
