use Rattle.std.proofs.Common.{◌≡◌, ◌++◌}
use Rattle.std.specs.Prelude.{replicate}
use Rattle.plan_reader.proofs.placing.push_name.Given as goal

abbrev pub invariant-loop : goal.invariant-loop
invariant-loop l = l.owned.items ≡ l.fn.owned.items ++ replicate l.counter l.name
