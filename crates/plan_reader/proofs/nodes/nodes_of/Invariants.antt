use Rattle.std.proofs.Common.{◌≡◌, length}
use Rattle.serde_json.specs.View.{view}
use Rattle.plan_reader.specs.Nodes.{node_of}
use Rattle.plan_reader.specs.Seen.{names_in}
use Rattle.plan_reader.proofs.Turns.{IsReadTo}
use Rattle.plan_reader.proofs.nodes.nodes_of.Given as goal

abbrev pub invariant-loop-object : goal.invariant-loop-object
invariant-loop-object l =
    record { read : IsReadTo view (λ before d. node_of l.version (names_in l.names) (length before) d) l.nodes l.object-index l.read.items; each : length l.read.items ≡ l.object-index }
