use Rattle.std.proofs.Common.{◌≡◌, length}
use Rattle.serde_json.specs.View.{view}
use Rattle.plan_reader.specs.Nodes.{name_of}
use Rattle.plan_reader.specs.Seen.{names_in}
use Rattle.plan_reader.proofs.Turns.{IsReadTo}
use Rattle.plan_reader.proofs.names.names_of.Given as goal

abbrev pub invariant-loop-object : goal.invariant-loop-object
invariant-loop-object l = record { read : IsReadTo view name_of l.nodes l.object-index (names_in l.names); each : length l.names.keys ≡ l.object-index }
