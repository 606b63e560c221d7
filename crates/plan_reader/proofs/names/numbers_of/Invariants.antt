use Rattle.plan_reader.specs.Nodes.{number_of}
use Rattle.plan_reader.specs.Seen.{names_in}
use Rattle.plan_reader.proofs.Turns.{IsReadTo}
use Rattle.plan_reader.proofs.names.numbers_of.Given as goal

abbrev pub invariant-loop-name : goal.invariant-loop-name
invariant-loop-name l = IsReadTo (λ name. name.now) (λ _ name. number_of (names_in l.names) l.place name) l.inputs l.name-index l.numbers.items
