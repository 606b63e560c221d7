use Rattle.plan_reader.specs.Settings.{file_of}
use Rattle.plan_reader.proofs.Turns.{IsReadTo}
use Rattle.plan_reader.proofs.sources.files_of.Given as goal

abbrev pub invariant-loop-name : goal.invariant-loop-name
invariant-loop-name l = IsReadTo (λ name. name.now) (λ _ name. file_of l.place name) l.names l.name-index l.files.items
